use Rattle.can_log.proofs.Promises.{refused_lines}
use Rattle.can_log.proofs.laws.refused_lines.Goals as goal

pub returns : goal.returns
returns c = refused_lines
