-- The law is its lemma.
use Rattle.slow_answers.proofs.Order.{equal_ones_stay_in_order}
use Rattle.slow_answers.proofs.laws.equal_ones_stay_in_order.Goals as goal

pub returns : goal.returns
returns c = equal_ones_stay_in_order
