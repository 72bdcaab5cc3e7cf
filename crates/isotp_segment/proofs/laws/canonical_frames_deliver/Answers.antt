use Rattle.isotp_segment.proofs.Promises.{canonical_frames_deliver, canonical_frames_deliver_nothing_before}
use Rattle.isotp_segment.proofs.laws.canonical_frames_deliver.Goals as goal

pub returns : goal.returns
returns c = record { message = canonical_frames_deliver; nothing_before = canonical_frames_deliver_nothing_before }
