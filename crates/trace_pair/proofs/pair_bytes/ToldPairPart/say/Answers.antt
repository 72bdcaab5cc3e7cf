-- The answers are told by the tests that the definition names.
use Rattle.trace_pair.proofs.pair_bytes.ToldPairPart.say.Goals as goal

pub returns : goal.returns
returns g c = rw (c.is_request_role.ensures, c.same_outcome-same.ensures, c.outcome_by.ensures, c.outcome_by-2.ensures) at c.say.ensures
