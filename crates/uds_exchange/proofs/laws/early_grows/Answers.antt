use Rattle.uds_exchange.proofs.EarlyOfMore.{early_grows}
use Rattle.uds_exchange.proofs.laws.early_grows.Goals as goal

pub returns : goal.returns
returns c = early_grows
