-- The outcome is told by the answer.
use Rattle.trace_pair.proofs.pair_bytes.OutcomeLinePart.say.Goals as goal

pub returns : goal.returns
returns g c = rw (c.outcome_by.ensures) at c.say.ensures
