-- Where the receptions began that stand after the frames of a log.
use Rattle.std.specs.Prelude.{◌≡◌, ℕ, Bool, true, false, List, Option, Some, None, option_map, unwrap_or, if◌then◌else◌}
use Rattle.direction.specs.declared.Dir.{Dir}
use Rattle.direction.specs.declared.Dir.TheVariants.{Tester, Unit}
use Rattle.isotp_receive.specs.Channels.{channel_of, same_channel}
use Rattle.isotp_receive.specs.StandingReception.{StandingReception, stands}
use Rattle.isotp_receive.specs.Trace.{Entry, same_direction}
use Rattle.isotp_receive.specs.Verdict.{VerdictValue, message, began, stored, flowed, dropped, EventValue}
use Rattle.isotp_receive.specs.declared.channel.Channel.{Channel}
use Rattle.isotp_receive.specs.declared.channel.Channel.TheVariants as on
use Rattle.isotp_receive.specs.declared.event.Ended.{Ended}
use Rattle.trace_canon.specs.FirstFrames.{last_start, place_of}
use Rattle.trace_canon.specs.declared.reception_starts.FramePlace.{FramePlace}
use Rattle.trace_canon.specs.declared.reception_starts.ReceptionStarts.{ReceptionStarts}

-- where the reception of d began, if one stands
abbrev pub reception_start : ReceptionStarts → Dir → Option FramePlace
reception_start starts Tester = starts.tester
reception_start starts Unit = starts.unit

-- The reception of d that stands after the frames T began in this place, and none stands where there is no place: it
-- began with the last frame of T that starts a message of d, whatever frame `earlier` came before T.
abbrev pub IsBegunAt : ℕ → Dir → List Entry → Option FramePlace → Type 0
IsBegunAt limit d T begun =
    (earlier : Entry)
    → begun ≡ option_map (λ (standing : StandingReception). place_of (last_start (channel_of d) earlier T))
    (stands limit (channel_of d) T)

-- of both directions, this is where the receptions began that stand after the frames T
abbrev pub AreStartsAfter : ℕ → List Entry → ReceptionStarts → Type 0
AreStartsAfter limit T starts = (d : Dir) → IsBegunAt limit d T (reception_start starts d)

-- How one frame moves a start, whatever it is of.

-- where a reception of d began, if one stands, after an end
abbrev pub still_begun : Dir → Option Ended → Option FramePlace → Option FramePlace
still_begun d None begun = begun
still_begun d (Some ended) begun = if same_direction d ended.dir then None else begun

-- where a reception began, if one stands, after what became of a frame in this place, of its channel or of another
abbrev pub start_after_verdict : Bool → VerdictValue → FramePlace → Option FramePlace → Option FramePlace
start_after_verdict true (message bytes) here begun = None
start_after_verdict true began here begun = Some here
start_after_verdict true stored here begun = begun
start_after_verdict true flowed here begun = begun
start_after_verdict true (dropped reason) here begun = begun
start_after_verdict false did here begun = begun

-- where a reception of d began, if one stands, after all that a frame of this channel did in this place: the end first
abbrev pub start_after_event : Dir → Channel → EventValue → FramePlace → Option FramePlace → Option FramePlace
start_after_event d channel event here begun =
    start_after_verdict (same_channel (channel_of d) channel) event.verdict here (still_begun d event.ended begun)

-- where a message began that a frame completed: where its reception did, if one stood that the frame did not end, else
-- here; and here where the frame is to all units, whatever stands
abbrev pub message_start : Channel → EventValue → FramePlace → Option FramePlace → FramePlace
message_start on.Tester event here begun = unwrap_or (still_begun Tester event.ended begun) here
message_start on.Unit event here begun = unwrap_or (still_begun Unit event.ended begun) here
message_start on.Functional event here begun = here
