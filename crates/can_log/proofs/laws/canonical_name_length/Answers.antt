use Rattle.can_log.proofs.Promises.{canonical_name_length}
use Rattle.can_log.proofs.laws.canonical_name_length.Goals as goal

pub returns : goal.returns
returns c = canonical_name_length
