-- The law is its lemma.
use Rattle.slow_answers.proofs.FoundLonger.{never_longer_both_ways}
use Rattle.slow_answers.proofs.laws.never_longer_both_ways.Goals as goal

pub returns : goal.returns
returns c = never_longer_both_ways
