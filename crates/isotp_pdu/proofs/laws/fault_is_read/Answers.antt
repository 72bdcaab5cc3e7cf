use Rattle.isotp_pdu.proofs.EveryFrame.{fault_is_read}
use Rattle.isotp_pdu.proofs.laws.fault_is_read.Goals as goal

pub returns : goal.returns
returns c = fault_is_read
