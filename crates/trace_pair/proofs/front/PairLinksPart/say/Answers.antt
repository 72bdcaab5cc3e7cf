-- What is said are the links, part by part.
use Rattle.trace_pair.proofs.front.PairLinksPart.say.Goals as goal

pub returns : goal.returns
returns g c = c.say.ensures
