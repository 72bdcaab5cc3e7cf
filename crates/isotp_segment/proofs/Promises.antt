-- The proofs of the public laws, each under the name of its statement in specs/, for the crates above to cite. Nothing
-- else of proofs/ is for them.
use Rattle.isotp_segment.specs.Laws.{CanonicalFramesAreARecording, CanonicalFramesAreClean, CanonicalFramesDeliver, CanonicalFramesDeliverNothingBefore}
pub use Rattle.isotp_segment.proofs.Counts.{frame_count_by_length, consecutive_count_is_least}
pub use Rattle.isotp_segment.proofs.EightBytes.{canonical_frames_have_eight_bytes, short_message_is_one_frame}
use Rattle.isotp_segment.proofs.Recorded.{frames-recording}
use Rattle.isotp_segment.proofs.CleanFrames.{frames-clean}
use Rattle.isotp_segment.proofs.DeliveredMessage.{frames-deliver, front-delivers}

pub canonical_frames_are_a_recording : CanonicalFramesAreARecording
canonical_frames_are_a_recording limit identifier line micros M bits sizes = frames-recording identifier line micros limit bits M sizes

pub canonical_frames_are_clean : CanonicalFramesAreClean
canonical_frames_are_clean limit identifier line micros M bits sizes = frames-clean identifier line micros limit bits M sizes

pub canonical_frames_deliver : CanonicalFramesDeliver
canonical_frames_deliver = frames-deliver

pub canonical_frames_deliver_nothing_before : CanonicalFramesDeliverNothingBefore
canonical_frames_deliver_nothing_before limit identifier line micros T d m n bits some fits below =
    front-delivers limit identifier line micros T d m bits some fits n below
