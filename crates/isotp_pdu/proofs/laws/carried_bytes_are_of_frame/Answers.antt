use Rattle.isotp_pdu.proofs.Promises.{carried_bytes_are_of_frame}
use Rattle.isotp_pdu.proofs.laws.carried_bytes_are_of_frame.Goals as goal

pub returns : goal.returns
returns c = carried_bytes_are_of_frame
