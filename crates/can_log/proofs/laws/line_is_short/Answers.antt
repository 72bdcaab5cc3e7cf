use Rattle.can_log.proofs.Promises.{line_is_short}
use Rattle.can_log.proofs.laws.line_is_short.Goals as goal

pub returns : goal.returns
returns c = line_is_short
