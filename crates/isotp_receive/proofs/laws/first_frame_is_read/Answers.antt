use Rattle.isotp_receive.proofs.Promises.{first_frame_is_read}
use Rattle.isotp_receive.proofs.laws.first_frame_is_read.Goals as goal

pub returns : goal.returns
returns c = first_frame_is_read
