use Rattle.uds_exchange.proofs.Promises.{messages_by_roles}
use Rattle.uds_exchange.proofs.laws.messages_by_roles.Goals as goal

pub returns : goal.returns
returns c = messages_by_roles
