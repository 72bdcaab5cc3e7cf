use Rattle.can_log.proofs.Promises.{refused_line_is_no_line}
use Rattle.can_log.proofs.laws.refused_line_is_no_line.Goals as goal

pub returns : goal.returns
returns c = refused_line_is_no_line
