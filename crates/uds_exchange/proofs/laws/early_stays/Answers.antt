use Rattle.uds_exchange.proofs.EarlyOfMore.{early_stays}
use Rattle.uds_exchange.proofs.laws.early_stays.Goals as goal

pub returns : goal.returns
returns c = early_stays
