-- The law is its lemma of the rows that tell a loss.
use Rattle.trace_pair.proofs.LossyRows.{lossy-where-lost}
use Rattle.trace_pair.proofs.laws.lossy_where_lost.Goals as goal

pub returns : goal.returns
returns c = lossy-where-lost
