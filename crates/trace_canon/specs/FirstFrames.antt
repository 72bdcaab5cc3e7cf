-- Where a frame stands, and which frame is the first one of a message. A *place* is that of a frame: its line and its
-- time.
use Rattle.std.specs.Prelude.{◌≡◌, ℕ, Bool, true, false, List, [], ◌∷◌, ◌++◌, if◌then◌else◌}
use Rattle.isotp_receive.specs.declared.channel.Channel.{Channel}
use Rattle.isotp_receive.specs.Trace.{Entry, FrameRole, single, first, consecutive, continue_or_wait, overflow, no_part, role}
use Rattle.isotp_receive.specs.Verdict.{message, verdict}
use Rattle.trace_canon.specs.declared.reception_starts.FramePlace.{FramePlace}

-- the place of a frame
abbrev pub place_of : Entry → FramePlace
place_of e = record { line = e.line; micros = e.micros }

-- a frame of this role starts a message: a single frame or a first frame
abbrev pub starts_message : FrameRole → Bool
starts_message (single whole) = true
starts_message (first start) = true
starts_message (consecutive sequence_number can_dl bytes) = false
starts_message continue_or_wait = false
starts_message overflow = false
starts_message no_part = false

-- the last of these frames that starts a message of the channel; the frame `earlier` where none of them does
abbrev pub last_start : Channel → Entry → List Entry → Entry
last_start d earlier [] = earlier
last_start d earlier (e ∷ rest) = last_start d (if starts_message (role d e) then e else earlier) rest

-- The frame completes a message.
abbrev pub CompletesMessage : ℕ → List Entry → Entry → Type 0
CompletesMessage limit T e = (bytes : List ℕ) × ((verdict limit T e).verdict ≡ message bytes)

-- the first frame of a message that the frame e completes after the frames T: no other one starts between the two
abbrev pub first_frame : List Entry → Entry → Entry
first_frame T e = last_start e.channel e (T ++ e ∷ [])
