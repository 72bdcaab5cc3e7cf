-- The law is its lemma of the numbers of rows.
use Rattle.trace_pair.proofs.RowsOnce.{links_have_targets}
use Rattle.trace_pair.proofs.laws.links_have_targets.Goals as goal

pub returns : goal.returns
returns c = links_have_targets
