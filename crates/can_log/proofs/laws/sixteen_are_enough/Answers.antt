use Rattle.can_log.proofs.Promises.{sixteen_are_enough}
use Rattle.can_log.proofs.laws.sixteen_are_enough.Goals as goal

pub returns : goal.returns
returns c = sixteen_are_enough
