use Rattle.isotp_segment.proofs.Promises.{short_message_is_one_frame}
use Rattle.isotp_segment.proofs.laws.short_message_is_one_frame.Goals as goal

pub returns : goal.returns
returns c = short_message_is_one_frame
