use Rattle.can_log.proofs.Promises.{lines_mean_in_parts}
use Rattle.can_log.proofs.laws.lines_mean_in_parts.Goals as goal

pub returns : goal.returns
returns c = lines_mean_in_parts
