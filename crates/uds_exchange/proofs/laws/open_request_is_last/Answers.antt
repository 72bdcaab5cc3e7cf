use Rattle.uds_exchange.proofs.OpenRequests.{open_request_is_last}
use Rattle.uds_exchange.proofs.laws.open_request_is_last.Goals as goal

pub returns : goal.returns
returns c = open_request_is_last
