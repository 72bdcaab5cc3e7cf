use Rattle.uds_exchange.proofs.EarlyOfMore.{early_then_held}
use Rattle.uds_exchange.proofs.laws.early_then_held.Goals as goal

pub returns : goal.returns
returns c = early_then_held
