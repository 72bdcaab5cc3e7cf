use Rattle.uds_find.proofs.Needing.{need_has_kept}
use Rattle.uds_find.proofs.laws.need_has_kept.Goals as goal

pub returns : goal.returns
returns c = need_has_kept
