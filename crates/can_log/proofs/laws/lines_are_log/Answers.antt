use Rattle.can_log.proofs.Promises.{lines_are_log}
use Rattle.can_log.proofs.laws.lines_are_log.Goals as goal

pub returns : goal.returns
returns c = lines_are_log
