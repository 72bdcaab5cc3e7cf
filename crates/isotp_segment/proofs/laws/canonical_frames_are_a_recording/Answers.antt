use Rattle.isotp_segment.proofs.Promises.{canonical_frames_are_a_recording}
use Rattle.isotp_segment.proofs.laws.canonical_frames_are_a_recording.Goals as goal

pub returns : goal.returns
returns c = canonical_frames_are_a_recording
