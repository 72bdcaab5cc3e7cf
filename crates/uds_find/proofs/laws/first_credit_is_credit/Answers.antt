use Rattle.uds_find.proofs.Needing.{first_credit_is_credit}
use Rattle.uds_find.proofs.laws.first_credit_is_credit.Goals as goal

pub returns : goal.returns
returns c = first_credit_is_credit
