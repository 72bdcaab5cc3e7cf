-- The law is its lemma.
use Rattle.slow_answers.proofs.Order.{slowest_come_first}
use Rattle.slow_answers.proofs.laws.slowest_come_first.Goals as goal

pub returns : goal.returns
returns c = slowest_come_first
