-- An answer is told where the definition tests for a request.
use Rattle.trace_pair.proofs.told_items.ToldItemPart.say.Goals as goal

pub returns : goal.returns
returns g c = rw (c.is_request_role.ensures) at c.say.ensures
