use Rattle.can_log.proofs.Promises.{lines_mean_as_many}
use Rattle.can_log.proofs.laws.lines_mean_as_many.Goals as goal

pub returns : goal.returns
returns c = lines_mean_as_many
