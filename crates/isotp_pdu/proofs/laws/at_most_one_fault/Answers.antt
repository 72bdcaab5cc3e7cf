use Rattle.isotp_pdu.proofs.EveryFrame.{one_fault}
use Rattle.isotp_pdu.proofs.laws.at_most_one_fault.Goals as goal

pub returns : goal.returns
returns c = one_fault
