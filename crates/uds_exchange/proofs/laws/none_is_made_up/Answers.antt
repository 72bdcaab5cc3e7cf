use Rattle.uds_exchange.proofs.Promises.{none_is_made_up}
use Rattle.uds_exchange.proofs.laws.none_is_made_up.Goals as goal

pub returns : goal.returns
returns c = none_is_made_up
