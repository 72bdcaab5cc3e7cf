use Rattle.uds_exchange.proofs.PuttingItems.{decided_puts_end}
use Rattle.uds_exchange.proofs.laws.decided_puts_end.Goals as goal

pub returns : goal.returns
returns g c = decided_puts_end g.S.ItemSink.takes
