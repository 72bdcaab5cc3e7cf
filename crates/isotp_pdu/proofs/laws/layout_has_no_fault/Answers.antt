use Rattle.isotp_pdu.proofs.EveryFrame.{no_fault}
use Rattle.isotp_pdu.proofs.laws.layout_has_no_fault.Goals as goal

pub returns : goal.returns
returns c = no_fault
