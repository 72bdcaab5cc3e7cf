use Rattle.trace_log.proofs.LargerLimits.{larger_limit_keeps}
use Rattle.trace_log.proofs.laws.larger_limit_keeps.Goals as goal

pub returns : goal.returns
returns c = larger_limit_keeps
