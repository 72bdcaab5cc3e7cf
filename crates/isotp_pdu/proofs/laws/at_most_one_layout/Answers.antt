use Rattle.isotp_pdu.proofs.EveryFrame.{one_layout}
use Rattle.isotp_pdu.proofs.laws.at_most_one_layout.Goals as goal

pub returns : goal.returns
returns c = one_layout
