use Rattle.isotp_segment.proofs.Promises.{canonical_frames_have_eight_bytes}
use Rattle.isotp_segment.proofs.laws.canonical_frames_have_eight_bytes.Goals as goal

pub returns : goal.returns
returns c = canonical_frames_have_eight_bytes
