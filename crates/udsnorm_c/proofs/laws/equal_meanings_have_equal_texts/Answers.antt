use Rattle.udsnorm_c.proofs.EqualTexts.{compare_tells_equal_texts, equal_meanings_have_equal_texts}
use Rattle.udsnorm_c.proofs.laws.equal_meanings_have_equal_texts.Goals as goal

pub returns-clause-meaning : goal.returns-clause-meaning
returns-clause-meaning c = equal_meanings_have_equal_texts

pub returns-clause-compare : goal.returns-clause-compare
returns-clause-compare c = compare_tells_equal_texts c.outcome_is_one.ensures
