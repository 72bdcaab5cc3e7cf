use Rattle.uds_find.proofs.Needing.{need_has_asking}
use Rattle.uds_find.proofs.laws.need_has_asking.Goals as goal

pub returns : goal.returns
returns c = need_has_asking
