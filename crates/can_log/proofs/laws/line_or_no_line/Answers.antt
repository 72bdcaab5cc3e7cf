use Rattle.can_log.proofs.Promises.{line_or_no_line}
use Rattle.can_log.proofs.laws.line_or_no_line.Goals as goal

pub returns : goal.returns
returns c = line_or_no_line
