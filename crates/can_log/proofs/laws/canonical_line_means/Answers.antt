use Rattle.can_log.proofs.Promises.{canonical_line_means}
use Rattle.can_log.proofs.laws.canonical_line_means.Goals as goal

pub returns : goal.returns
returns c = canonical_line_means
