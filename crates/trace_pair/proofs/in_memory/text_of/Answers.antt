-- What was written is what was gathered.
use Rattle.std.proofs.Common.{ap, sym, ◌∙◌}
use Rattle.trace_canon.proofs.Promises.{taken_is_gathered}
use Rattle.trace_pair.proofs.PagesInMemory.{text_in_memory}
use Rattle.trace_pair.proofs.in_memory.text_of.Goals as goal

pub returns-in-Ok : goal.returns-in-Ok
returns-in-Ok c =
    let prints = c.write_pair_page.ensures.printed in
    let empty = ap (λ w. w.taken) c.new-writer.ensures in
    let gathered = taken_is_gathered empty (ap (λ w. w.inner.items) c.new-writer.ensures ∙ c.new.ensures.items) prints.wrote.took in
    text_in_memory c.write_pair_page.result _ _ _ _ _ c.in-Ok.is empty (gathered ∙ ap (λ v. v.items) (sym c.into_inner.ensures)) prints.written
