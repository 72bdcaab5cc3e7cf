use Rattle.isotp_pdu.proofs.EveryFrame.{layout_is_read}
use Rattle.isotp_pdu.proofs.laws.layout_is_read.Goals as goal

pub returns : goal.returns
returns c = layout_is_read
