use Rattle.can_log.proofs.Promises.{log_lines_go_on}
use Rattle.can_log.proofs.laws.log_lines_go_on.Goals as goal

pub returns : goal.returns
returns c = log_lines_go_on
