use Rattle.uds_exchange.proofs.MessagesByRoles.{each_list_has_roles}
use Rattle.uds_exchange.proofs.laws.each_list_has_roles.Goals as goal

pub returns : goal.returns
returns c = each_list_has_roles
