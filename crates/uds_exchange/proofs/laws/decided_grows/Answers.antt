use Rattle.uds_exchange.proofs.DecidedOfMore.{decided_grows}
use Rattle.uds_exchange.proofs.laws.decided_grows.Goals as goal

pub returns : goal.returns
returns c = decided_grows
