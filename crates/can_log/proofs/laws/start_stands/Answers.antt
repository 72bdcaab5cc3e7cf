use Rattle.can_log.proofs.Promises.{start_stands}
use Rattle.can_log.proofs.laws.start_stands.Goals as goal

pub returns : goal.returns
returns c = start_stands
