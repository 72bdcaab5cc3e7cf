use Rattle.trace_log.proofs.ReadAgain.{canonical_is_canonical}
use Rattle.trace_log.proofs.laws.canonical_is_canonical.Goals as goal

pub returns : goal.returns
returns c = canonical_is_canonical
