-- What is counted is told by the test that the definition names.
use Rattle.trace_pair.proofs.verdict_words.CountsWordsPart.say.Goals as goal

pub returns : goal.returns
returns g c = rw (c.are_none.ensures) at c.say.ensures
