use Rattle.uds_exchange.proofs.PuttingItems.{decided_puts_go_on}
use Rattle.uds_exchange.proofs.laws.decided_puts_go_on.Goals as goal

pub returns : goal.returns
returns g c = decided_puts_go_on g.S.ItemSink.takes
