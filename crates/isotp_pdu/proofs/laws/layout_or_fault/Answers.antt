use Rattle.isotp_pdu.proofs.EveryFrame.{layout_or_fault}
use Rattle.isotp_pdu.proofs.laws.layout_or_fault.Goals as goal

pub returns : goal.returns
returns c = layout_or_fault
