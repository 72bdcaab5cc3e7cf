use Rattle.uds_find.proofs.Needing.{credit_has_asking}
use Rattle.uds_find.proofs.laws.credit_has_asking.Goals as goal

pub returns : goal.returns
returns c = credit_has_asking
