use Rattle.uds_find.proofs.Asking.{credit_is_asked}
use Rattle.uds_find.proofs.laws.credit_is_asked.Goals as goal

pub returns : goal.returns
returns c = credit_is_asked
