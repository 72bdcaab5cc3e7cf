use Rattle.uds_exchange.proofs.PutIn.{one_more_is_put_in}
use Rattle.uds_exchange.proofs.laws.one_more_is_put_in.Goals as goal

pub returns : goal.returns
returns c = one_more_is_put_in
