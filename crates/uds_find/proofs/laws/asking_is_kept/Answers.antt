use Rattle.uds_find.proofs.Needing.{asking_is_kept}
use Rattle.uds_find.proofs.laws.asking_is_kept.Goals as goal

pub returns : goal.returns
returns c = asking_is_kept
