-- How many stand below is the difference that the definition names.
use Rattle.trace_pair.proofs.differences.DifferencesEndPart.say.Goals as goal

pub returns : goal.returns
returns g c = rw (c.saturating_sub.ensures) at c.say.ensures
