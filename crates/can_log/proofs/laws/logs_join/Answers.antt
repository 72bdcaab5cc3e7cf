use Rattle.can_log.proofs.Promises.{logs_join}
use Rattle.can_log.proofs.laws.logs_join.Goals as goal

pub returns : goal.returns
returns c = logs_join
