use Rattle.uds_exchange.proofs.Promises.{removed_go_on}
use Rattle.uds_exchange.proofs.laws.removed_go_on.Goals as goal

pub returns : goal.returns
returns c = removed_go_on
