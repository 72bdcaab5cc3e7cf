-- What the public laws of canonical frames say.
use Rattle.std.specs.Prelude.{◌≡◌, ◌<◌, ◌≤◌, ◌^◌, ◌+◌, ℕ, List, [], ◌∷◌, ◌++◌, length, take}
use Rattle.std.specs.List.{AllByRecursion}
use Rattle.direction.specs.Dir.{Message}
use Rattle.can_log.specs.Frame.{AreBytes}
use Rattle.direction.specs.declared.Dir.{Dir}
use Rattle.can_log.specs.declared.frame.Id.{Id}
use Rattle.can_log.specs.declared.frame.Kind.TheVariants.{Classic}
use Rattle.isotp_pdu.specs.Layout.{HasLayout, single}
use Rattle.isotp_receive.specs.Trace.{Entry}
use Rattle.isotp_receive.specs.Places.{IsConsecutiveCount}
use Rattle.isotp_receive.specs.Verdict.{messages}
use Rattle.isotp_receive.specs.Recording.{IsRecording}
use Rattle.isotp_receive.specs.CleanTrace.{IsClean}
use Rattle.isotp_segment.specs.CanonicalFrames.{room_in_first, consecutive_count, frame_count, canonical_frames}
use Rattle.isotp_segment.specs.Timed.{timed, HasFrames, all_frames}

-- how many frames a message has by the count: one up to 7 bytes, and above that the first frame, the continue frame and
-- the consecutive ones
abbrev pub FrameCountByLength : Type 0
FrameCountByLength = (len : ℕ) → (len ≤ 7 → frame_count len ≡ 1) × (7 < len → frame_count len ≡ 2 + consecutive_count len)

-- the count of a message's consecutive frames is the least that holds what the first frame leaves
abbrev pub ConsecutiveCountIsLeast : Type 0
ConsecutiveCountIsLeast = (len : ℕ) → 7 < len → IsConsecutiveCount (room_in_first len) 8 len (consecutive_count len)

-- a frame of 8 bytes, each of which is a byte
pub record HasEightBytes (frame : Dir × List ℕ) : Type 0 where
  pub eight : length frame.1 ≡ 8
  pub bytes : AreBytes frame.1

-- each canonical frame of a message of bytes has 8 bytes
abbrev pub CanonicalFramesHaveEightBytes : Type 0
CanonicalFramesHaveEightBytes = (limit : ℕ) (d : Dir) (message : List ℕ)
    → limit < 2 ^ 32 → AreBytes message → AllByRecursion HasEightBytes (canonical_frames limit d message)

-- the frames of the message are one, of the same side: a single frame that holds it, under any identifier
pub record AreOneSingleFrame (d : Dir) (message : List ℕ) (frames : List (Dir × List ℕ)) : Type 0 where
  pub bytes : List ℕ
  pub alone : frames ≡ (d, bytes) ∷ []
  pub holds : (id : Id) → HasLayout (record { id = id; kind = Classic; bytes = bytes }) (single message)

-- a message of 1 to 7 bytes has one canonical frame
abbrev pub ShortMessageIsOneFrame : Type 0
ShortMessageIsOneFrame = (limit : ℕ) (d : Dir) (message : List ℕ)
    → 1 ≤ length message → length message ≤ 7 → length message ≤ limit → AreOneSingleFrame d message (canonical_frames limit d message)

-- the canonical frames of any messages, a millisecond apart, are a recording of them
abbrev pub CanonicalFramesAreARecording : Type 0
CanonicalFramesAreARecording = (limit : ℕ) (identifier : Dir → Id) (line micros : ℕ) (M : List Message)
    → limit < 2 ^ 32 → AllByRecursion (HasFrames limit) M → IsRecording limit (timed identifier line micros (all_frames limit M)) M

-- the canonical frames of any messages, a millisecond apart, are a clean trace: none of them is dropped or ends a
-- reception, and nothing stands after the last
abbrev pub CanonicalFramesAreClean : Type 0
CanonicalFramesAreClean = (limit : ℕ) (identifier : Dir → Id) (line micros : ℕ) (M : List Message)
    → limit < 2 ^ 32 → AllByRecursion (HasFrames limit) M → IsClean limit (timed identifier line micros (all_frames limit M))

-- received after any trace, the canonical frames of a message deliver it, and nothing else
abbrev pub CanonicalFramesDeliver : Type 0
CanonicalFramesDeliver = (limit : ℕ) (identifier : Dir → Id) (line micros : ℕ) (T : List Entry) (d : Dir) (message : List ℕ)
    → limit < 2 ^ 32 → 1 ≤ length message → length message ≤ limit
    → messages limit (T ++ timed identifier line micros (canonical_frames limit d message)) ≡ messages limit T ++ (d, message) ∷ []

-- received after any trace, the canonical frames of a message but the last deliver nothing
abbrev pub CanonicalFramesDeliverNothingBefore : Type 0
CanonicalFramesDeliverNothingBefore = (limit : ℕ) (identifier : Dir → Id) (line micros : ℕ) (T : List Entry) (d : Dir)
    (message : List ℕ) (n : ℕ)
    → limit < 2 ^ 32 → 1 ≤ length message → length message ≤ limit → n < length (canonical_frames limit d message)
    → messages limit (T ++ timed identifier line micros (take n (canonical_frames limit d message))) ≡ messages limit T
