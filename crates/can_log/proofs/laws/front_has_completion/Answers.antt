use Rattle.can_log.proofs.Promises.{front_has_completion}
use Rattle.can_log.proofs.laws.front_has_completion.Goals as goal

pub returns : goal.returns
returns c = front_has_completion
