-- Of two refusals it is said once that they are.
use Rattle.trace_pair.proofs.outcome.OutcomesDifferPart.say.Goals as goal

pub returns : goal.returns
returns g c = rw (c.is_refusal.ensures) at c.say.ensures
