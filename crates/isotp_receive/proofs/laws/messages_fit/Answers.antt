use Rattle.isotp_receive.proofs.Promises.{messages_fit, messages_hold_bytes}
use Rattle.isotp_receive.proofs.laws.messages_fit.Goals as goal

pub returns : goal.returns
returns c = record { length = messages_fit; bytes = messages_hold_bytes }
