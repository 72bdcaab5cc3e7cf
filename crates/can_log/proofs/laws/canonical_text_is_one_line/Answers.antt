use Rattle.can_log.proofs.Promises.{canonical_text_is_one_line}
use Rattle.can_log.proofs.laws.canonical_text_is_one_line.Goals as goal

pub returns : goal.returns
returns c = canonical_text_is_one_line
