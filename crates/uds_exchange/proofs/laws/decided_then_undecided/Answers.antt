use Rattle.uds_exchange.proofs.DecidedOfMore.{decided_then_undecided}
use Rattle.uds_exchange.proofs.laws.decided_then_undecided.Goals as goal

pub returns : goal.returns
returns c = decided_then_undecided
