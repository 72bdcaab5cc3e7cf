use Rattle.profile.proofs.Promises.{units_are_in_order}
use Rattle.profile.proofs.laws.units_are_in_order.Goals as goal

pub returns : goal.returns
returns c = units_are_in_order
