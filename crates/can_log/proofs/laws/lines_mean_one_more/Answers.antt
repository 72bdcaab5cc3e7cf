use Rattle.can_log.proofs.Promises.{lines_mean_one_more}
use Rattle.can_log.proofs.laws.lines_mean_one_more.Goals as goal

pub returns : goal.returns
returns c = lines_mean_one_more
