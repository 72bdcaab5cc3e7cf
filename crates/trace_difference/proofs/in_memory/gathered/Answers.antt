use Rattle.std.proofs.Common.{ap, sym, ◌∙◌}
use Rattle.trace_canon.proofs.Promises.{taken_is_gathered}
use Rattle.trace_difference.proofs.DifferencesInMemory.{text_in_memory}
use Rattle.trace_difference.proofs.in_memory.gathered.Goals as goal

pub returns-in-Ok-clause-text : goal.returns-in-Ok-clause-text
returns-in-Ok-clause-text c =
    let prints = c.write_difference.ensures.printed in
    let empty = ap (λ w. w.taken) c.new-writer.ensures in
    let gathered = taken_is_gathered empty (ap (λ w. w.inner.items) c.new-writer.ensures ∙ c.new.ensures.items) prints.wrote.took in
    text_in_memory c.write_difference.result _ _ _ _ _ c.in-Ok.is empty (gathered ∙ ap (λ v. v.items) (sym c.into_inner.ensures)) prints.written
