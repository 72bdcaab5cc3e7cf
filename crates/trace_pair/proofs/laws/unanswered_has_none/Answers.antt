-- The law is its lemma of what is told.
use Rattle.trace_pair.proofs.ToldOutcomes.{unanswered_has_none}
use Rattle.trace_pair.proofs.laws.unanswered_has_none.Goals as goal

pub returns : goal.returns
returns c = unanswered_has_none
