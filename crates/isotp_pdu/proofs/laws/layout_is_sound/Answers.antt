use Rattle.isotp_pdu.proofs.Sound.{layout_is_sound}
use Rattle.isotp_pdu.proofs.laws.layout_is_sound.Goals as goal

pub returns : goal.returns
returns c = layout_is_sound
