-- What the public laws of recordings say.
use Rattle.std.specs.Prelude.{◌≡◌, ◌≤◌, ℕ, List, ◌++◌, take}
use Rattle.direction.specs.Dir.{Message}
use Rattle.isotp_receive.specs.Trace.{Entry}
use Rattle.isotp_receive.specs.Verdict.{messages}
use Rattle.isotp_receive.specs.Recording.{IsRecording, ended_within}
use Rattle.isotp_receive.specs.FramesOf.{AreGivenTheirFrames, EachBelongsOnce}
use Rattle.isotp_receive.specs.CleanTrace.{IsClean}

-- a recording delivers its messages, in order, and nothing else
abbrev pub RecordingDelivers : Type 0
RecordingDelivers = (limit : ℕ) (T : List Entry) (M : List Message) → IsRecording limit T M → messages limit T ≡ M

-- it does so after any trace, whatever stands there
abbrev pub RecordingDeliversBehind : Type 0
RecordingDeliversBehind =
    (limit : ℕ) (before T : List Entry) (M : List Message) → IsRecording limit T M
    → messages limit (before ++ T) ≡ messages limit before ++ M

-- each message is delivered at the last of its positions
abbrev pub RecordingDeliversAtLastPosition : Type 0
RecordingDeliversAtLastPosition =
    (limit : ℕ) (before T : List Entry) (M : List Message) (recording : IsRecording limit T M) (count : ℕ)
    → messages limit (before ++ take count T) ≡ messages limit before ++ ended_within count recording.transfers

-- it gives each message the positions of the frames that make it, and each frame that carries a message to exactly one
abbrev pub RecordingDeliversByFrames : Type 0
RecordingDeliversByFrames =
    (limit : ℕ) (T : List Entry) (M : List Message) (recording : IsRecording limit T M)
    → AreGivenTheirFrames limit T recording.transfers × EachBelongsOnce T recording.transfers

-- A trace of which nothing is dropped, ended or left over is a recording of what it delivers: each message is given the
-- positions of the frames that make it, and each single, first and consecutive frame belongs to exactly one. The limit is at
-- least the length of the longest frame, since no rule bounds the message of a single frame by it.
abbrev pub CleanTraceIsARecording : Type 0
CleanTraceIsARecording =
    (limit : ℕ) (T : List Entry) → 64 ≤ limit → IsClean limit T
    → (recording : IsRecording limit T (messages limit T)) × AreGivenTheirFrames limit T recording.transfers × EachBelongsOnce T recording.transfers
