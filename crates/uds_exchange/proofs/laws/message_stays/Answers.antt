use Rattle.uds_exchange.proofs.Promises.{message_stays}
use Rattle.uds_exchange.proofs.laws.message_stays.Goals as goal

pub returns : goal.returns
returns c = message_stays
