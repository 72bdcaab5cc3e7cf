use Rattle.can_log.proofs.Promises.{line_means_at_most_one}
use Rattle.can_log.proofs.laws.line_means_at_most_one.Goals as goal

pub returns : goal.returns
returns c = line_means_at_most_one
