use Rattle.can_log.proofs.Promises.{log_tells_one}
use Rattle.can_log.proofs.laws.log_tells_one.Goals as goal

pub returns : goal.returns
returns c = log_tells_one
