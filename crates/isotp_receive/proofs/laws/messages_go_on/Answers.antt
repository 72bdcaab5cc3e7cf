use Rattle.isotp_receive.proofs.Promises.{messages_go_on, messages_are_few}
use Rattle.isotp_receive.proofs.laws.messages_go_on.Goals as goal

pub returns : goal.returns
returns c = record { more = messages_go_on; few = messages_are_few }
