use Rattle.uds_find.proofs.Asking.{second_answer_has_no_credit}
use Rattle.uds_find.proofs.laws.second_answer_has_no_credit.Goals as goal

pub returns : goal.returns
returns c = second_answer_has_no_credit
