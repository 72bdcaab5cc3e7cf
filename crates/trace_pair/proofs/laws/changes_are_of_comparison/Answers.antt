-- The law is its lemma of the first row that is not the same.
use Rattle.trace_pair.proofs.ComparedChanges.{of-comparison}
use Rattle.trace_pair.proofs.laws.changes_are_of_comparison.Goals as goal

pub returns : goal.returns
returns c = of-comparison
