-- The law is its lemma.
use Rattle.slow_answers.proofs.FoundLonger.{longer_are_found_one_by_one}
use Rattle.slow_answers.proofs.laws.longer_are_found_one_by_one.Goals as goal

pub returns : goal.returns
returns c = longer_are_found_one_by_one
