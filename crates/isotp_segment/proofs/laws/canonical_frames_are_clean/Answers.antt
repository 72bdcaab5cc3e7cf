use Rattle.isotp_segment.proofs.Promises.{canonical_frames_are_clean}
use Rattle.isotp_segment.proofs.laws.canonical_frames_are_clean.Goals as goal

pub returns : goal.returns
returns c = canonical_frames_are_clean
