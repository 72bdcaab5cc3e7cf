use Rattle.uds_exchange.proofs.Promises.{held_by_open_request}
use Rattle.uds_exchange.proofs.laws.held_by_open_request.Goals as goal

pub returns : goal.returns
returns c = held_by_open_request
