use Rattle.uds_exchange.proofs.DecidedOfMore.{undecided_must_wait}
use Rattle.uds_exchange.proofs.laws.undecided_must_wait.Goals as goal

pub returns : goal.returns
returns c = undecided_must_wait
