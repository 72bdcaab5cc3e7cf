-- What is said is the front, part by part.
use Rattle.trace_pair.proofs.front.PairFrontPart.say.Goals as goal

pub returns : goal.returns
returns g c = c.say.ensures
