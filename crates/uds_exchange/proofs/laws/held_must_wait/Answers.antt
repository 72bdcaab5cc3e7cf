use Rattle.uds_exchange.proofs.HeldMustWait.{held_must_wait}
use Rattle.uds_exchange.proofs.laws.held_must_wait.Goals as goal

pub returns : goal.returns
returns c = held_must_wait
