use Rattle.trace_log.proofs.Limits.{largest_limit}
use Rattle.trace_log.proofs.laws.largest_limit.Goals as goal

pub returns : goal.returns
returns c = largest_limit
