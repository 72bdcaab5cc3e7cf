use Rattle.isotp_segment.proofs.Promises.{frame_count_by_length}
use Rattle.isotp_segment.proofs.laws.frame_count_by_length.Goals as goal

pub returns : goal.returns
returns c = frame_count_by_length
