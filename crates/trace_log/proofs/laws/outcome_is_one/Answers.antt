use Rattle.trace_log.proofs.OneOutcome.{outcome_is_one}
use Rattle.trace_log.proofs.laws.outcome_is_one.Goals as goal

pub returns : goal.returns
returns c = outcome_is_one
