use Rattle.can_log.proofs.Promises.{line_is_log}
use Rattle.can_log.proofs.laws.line_is_log.Goals as goal

pub returns : goal.returns
returns c = line_is_log
