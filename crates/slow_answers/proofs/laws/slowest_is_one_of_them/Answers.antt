-- The law is its lemma.
use Rattle.slow_answers.proofs.FoundLonger.{slowest_is_one_of_them}
use Rattle.slow_answers.proofs.laws.slowest_is_one_of_them.Goals as goal

pub returns : goal.returns
returns c = slowest_is_one_of_them
