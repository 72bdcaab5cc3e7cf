use Rattle.can_log.proofs.Promises.{log_lines_of_parts}
use Rattle.can_log.proofs.laws.log_lines_of_parts.Goals as goal

pub returns : goal.returns
returns c = log_lines_of_parts
