use Rattle.uds_exchange.proofs.Promises.{open_request_goes_on}
use Rattle.uds_exchange.proofs.laws.open_request_goes_on.Goals as goal

pub returns : goal.returns
returns c = open_request_goes_on
