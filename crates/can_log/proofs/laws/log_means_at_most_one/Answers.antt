use Rattle.can_log.proofs.Promises.{log_means_at_most_one}
use Rattle.can_log.proofs.laws.log_means_at_most_one.Goals as goal

pub returns : goal.returns
returns c = log_means_at_most_one
