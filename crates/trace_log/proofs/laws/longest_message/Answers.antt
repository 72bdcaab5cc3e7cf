use Rattle.trace_log.proofs.Limits.{longest_message}
use Rattle.trace_log.proofs.laws.longest_message.Goals as goal

pub returns : goal.returns
returns c = longest_message
