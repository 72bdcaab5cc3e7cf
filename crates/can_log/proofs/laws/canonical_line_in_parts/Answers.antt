use Rattle.can_log.proofs.Promises.{canonical_line_in_parts}
use Rattle.can_log.proofs.laws.canonical_line_in_parts.Goals as goal

pub returns : goal.returns
returns c = canonical_line_in_parts
