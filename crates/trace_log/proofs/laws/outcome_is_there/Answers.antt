use Rattle.trace_log.proofs.SomeOutcome.{outcome_is_there}
use Rattle.trace_log.proofs.laws.outcome_is_there.Goals as goal

pub returns : goal.returns
returns c = outcome_is_there
