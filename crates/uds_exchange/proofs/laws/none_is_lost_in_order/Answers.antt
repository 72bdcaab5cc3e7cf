use Rattle.uds_exchange.proofs.NoneLost.{none_is_lost_in_order}
use Rattle.uds_exchange.proofs.laws.none_is_lost_in_order.Goals as goal

pub returns : goal.returns
returns c = none_is_lost_in_order
