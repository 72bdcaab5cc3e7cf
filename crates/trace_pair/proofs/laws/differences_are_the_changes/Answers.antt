-- The law is its lemma of the changes that begin with rows.
use Rattle.trace_pair.proofs.NumberedChanges.{differences_are_the_changes}
use Rattle.trace_pair.proofs.laws.differences_are_the_changes.Goals as goal

pub returns : goal.returns
returns c = differences_are_the_changes
