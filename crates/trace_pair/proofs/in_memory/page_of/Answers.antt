-- The page is of both logs, which are set side by side.
use Rattle.std.proofs.Common.{ap, ◌∙◌}
use Rattle.trace_pair.specs.InMemory.{counted_two}
use Rattle.trace_pair.specs.Page as Spec
use Rattle.trace_pair.specs.Titles.{title_of}
use Rattle.trace_pair.proofs.in_memory.page_of.Goals as goal

pub returns-in-Ok-text_of : goal.returns-in-Ok-text_of
returns-in-Ok-text_of c =
    let title = title_of c.args.title.now in
    let same = c.in-Ok.ensures.kept in
    (c.in-Ok-text_of.ensures ∙ (λ i. Spec.page_of title (same i).left (same i).right), c.counted_two-counted.ensures ∙ ap counted_two same)
