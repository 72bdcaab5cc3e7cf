-- The law is the lemma of joined lines.
use Rattle.trace_text.proofs.ItemLines.{unnumbered_lists_join}
use Rattle.trace_text.proofs.laws.unnumbered_lists_join.Goals as goal

pub returns : goal.returns
returns c = unnumbered_lists_join
