use Rattle.isotp_receive.proofs.DeliversLaws.{message-delivers}
use Rattle.isotp_receive.proofs.laws.a_message_is_delivered.Goals as goal

pub returns : goal.returns
returns c = message-delivers
