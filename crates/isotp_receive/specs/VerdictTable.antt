-- What each frame does, row by row (ISO 15765-2, sections 9.6 and 9.8), by looking back over the whole trace.
use Rattle.std.specs.Prelude.{◌≡◌, ◌≢◌, ◌<◌, ◌≤◌, ℕ, ◌+◌, ◌%◌, ◌++◌, ◌∷◌, [], List, length, Option, Some, None, Ok, Err}
use Rattle.direction.specs.Dir.{other_direction}
use Rattle.direction.specs.declared.Dir.{Dir}
use Rattle.isotp_receive.specs.Channels.{dir_of, other_channel}
use Rattle.isotp_receive.specs.declared.channel.Channel.{Channel}
use Rattle.isotp_pdu.specs.Layout as layout
use Rattle.isotp_receive.specs.declared.event.Reason.{Reason}
use Rattle.isotp_pdu.specs.declared.Status.{Status}
use Rattle.isotp_pdu.specs.declared.Status.TheVariants.{Overflow}
use Rattle.isotp_receive.specs.declared.event.Cause.{Cause}
use Rattle.isotp_receive.specs.declared.event.Cause.TheVariants as cause
use Rattle.isotp_receive.specs.declared.event.Ended.{Ended}
use Rattle.isotp_receive.specs.declared.event.Reason.TheVariants as reason
use Rattle.isotp_receive.specs.Trace.{Entry, FirstFrame, layout_in}
use Rattle.isotp_receive.specs.Fit.{Fit}
use Rattle.isotp_receive.specs.Fit as fit
use Rattle.isotp_receive.specs.OpenReception.{IsOpenAt, FitsOpen}
use Rattle.isotp_receive.specs.Delivers.{Completes}
use Rattle.isotp_receive.specs.Verdict.{EventValue, message, began, stored, flowed, refused}

-- after T the frame e comes, and the reception of d open then began at `begun` and took `number` consecutive frames
abbrev pub IsOpenBefore : ℕ → List Entry → Entry → Channel → ℕ → ℕ → Type 0
IsOpenBefore limit T e d begun number = IsOpenAt limit (T ++ e ∷ []) d begun number (length T)

-- nothing is open for d when e comes
abbrev pub NothingOpen : ℕ → List Entry → Entry → Channel → Type 0
NothingOpen limit T e d = (begun number : ℕ) → IsOpenBefore limit T e d begun number → ⊥

-- the reception of d that this first frame began, ended so
abbrev pub ended_by : Dir → FirstFrame → Cause → Ended
ended_by d start cause = record { dir = d; begun_line = start.line; len = start.len; cause = cause }

-- what a new start of d ends
abbrev pub EndsByNewStart : ℕ → List Entry → Entry → Option Ended → Type 0
EndsByNewStart limit T e None = NothingOpen limit T e e.channel
EndsByNewStart limit T e (Some ended) =
    (begun : ℕ) × (number : ℕ) × (reception : IsOpenBefore limit T e e.channel begun number)
    × (ended ≡ ended_by (dir_of e.channel) reception.begins.start cause.NewStart)

-- after T the consecutive frame e comes, and so it fits as the next one of the reception that is open then
abbrev pub FitsNext : ℕ → List Entry → Entry → Fit → Type 0
FitsNext limit T e fit = FitsOpen limit (T ++ e ∷ []) e.channel (length T) fit

-- the verdict on the frame e after the frames T
pub data HasVerdict (limit : ℕ) (T : List Entry) (e : Entry) : EventValue → Type 0 where
  -- a frame without a layout
  no_layout : (why : Reason) → layout_in e ≡ Err why → HasVerdict limit T e (refused None why)
  -- a single frame
  single_frame : (whole : List ℕ) (ended : Option Ended) → layout_in e ≡ Ok (layout.single whole) → EndsByNewStart limit T e ended
      → HasVerdict limit T e (record { ended = ended; verdict = message whole })
  -- a first frame that announces at most the limit, and one that announces more
  first_frame : (len rx_dl : ℕ) (bytes : List ℕ) (ended : Option Ended) → layout_in e ≡ Ok (layout.first len rx_dl bytes)
      → len ≤ limit → EndsByNewStart limit T e ended
      → HasVerdict limit T e (record { ended = ended; verdict = began })
  too_long : (len rx_dl : ℕ) (bytes : List ℕ) (ended : Option Ended) → layout_in e ≡ Ok (layout.first len rx_dl bytes)
      → limit < len → EndsByNewStart limit T e ended
      → HasVerdict limit T e (refused ended (reason.TooLong len))
  -- a consecutive frame where nothing is open, and where a reception is: late, of a wrong number, of a wrong length,
  -- stored, and the last
  next_unexpected : (sequence_number can_dl : ℕ) (bytes : List ℕ)
      → layout_in e ≡ Ok (layout.consecutive sequence_number can_dl bytes) → NothingOpen limit T e e.channel
      → HasVerdict limit T e (refused None reason.NextUnexpected)
  next_late : (fits : FitsNext limit T e fit.late)
      → HasVerdict limit T e (refused (Some (ended_by (dir_of e.channel) fits.is_open.begins.start cause.Late)) reason.NextLate)
  wrong_number : (fits : FitsNext limit T e fit.wrong_number)
      → HasVerdict limit T e
      (refused (Some (ended_by (dir_of e.channel) fits.is_open.begins.start cause.Sequence)) (reason.NextSequence ((fits.number + 1) % 16) fits.next.sequence_number))
  wrong_length : (fits : FitsNext limit T e fit.wrong_length)
      → HasVerdict limit T e (refused (Some (ended_by (dir_of e.channel) fits.is_open.begins.start cause.Length)) reason.NextLength)
  stored_frame : FitsNext limit T e fit.one_more
      → HasVerdict limit T e (record { ended = None; verdict = stored })
  last_frame : (whole : List ℕ) → Completes limit (T ++ e ∷ []) (length T) e.channel whole
      → HasVerdict limit T e (record { ended = None; verdict = message whole })
  -- flow control where nothing is open for the other channel, and where a reception is: continue or wait, overflow
  -- before its first consecutive frame, and overflow later
  flow_unexpected : (status : Status) → layout_in e ≡ Ok (layout.flow_control status)
      → NothingOpen limit T e (other_channel e.channel)
      → HasVerdict limit T e (refused None reason.FlowUnexpected)
  flow : (status : Status) (begun number : ℕ) → layout_in e ≡ Ok (layout.flow_control status) → status ≢ Overflow
      → IsOpenBefore limit T e (other_channel e.channel) begun number
      → HasVerdict limit T e (record { ended = None; verdict = flowed })
  overflow_in_time : (begun : ℕ) → layout_in e ≡ Ok (layout.flow_control Overflow)
      → (reception : IsOpenBefore limit T e (other_channel e.channel) begun 0)
      → HasVerdict limit T e
      (record { ended = Some (ended_by (other_direction (dir_of e.channel)) reception.begins.start cause.Overflow); verdict = flowed })
  overflow_too_late : (begun number : ℕ) → layout_in e ≡ Ok (layout.flow_control Overflow)
      → IsOpenBefore limit T e (other_channel e.channel) begun number → 0 < number
      → HasVerdict limit T e (refused None reason.FlowUnexpected)
