use Rattle.uds_exchange.proofs.Promises.{each_has_one_role}
use Rattle.uds_exchange.proofs.laws.each_has_one_role.Goals as goal

pub returns : goal.returns
returns c = each_has_one_role
