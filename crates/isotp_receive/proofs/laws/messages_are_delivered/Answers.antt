use Rattle.isotp_receive.proofs.DeliveredMessages.{messages_are_delivered}
use Rattle.isotp_receive.proofs.laws.messages_are_delivered.Goals as goal

pub returns : goal.returns
returns c = messages_are_delivered
