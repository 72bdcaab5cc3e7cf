use Rattle.can_log.proofs.Promises.{canonical_line_length}
use Rattle.can_log.proofs.laws.canonical_line_length.Goals as goal

pub returns : goal.returns
returns c = canonical_line_length
