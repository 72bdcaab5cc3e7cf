use Rattle.profile.proofs.Promises.{rules_are_in_order}
use Rattle.profile.proofs.laws.rules_are_in_order.Goals as goal

pub returns : goal.returns
returns c = rules_are_in_order
