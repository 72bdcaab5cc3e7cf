-- The law is its lemma of first differences.
use Rattle.trace_pair.proofs.Agreeing.{of-items}
use Rattle.trace_pair.proofs.laws.comparison_is_of_items.Goals as goal

pub returns : goal.returns
returns c = of-items
