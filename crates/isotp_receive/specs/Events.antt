-- What the frames of a trace do, one after another, and how many of them do what.
use Rattle.std.specs.Prelude.{ℕ, ◌+◌, Bool, true, false, List, [], ◌∷◌, ◌++◌, nat_le, is_some, Option, Some, None, Result, Ok, Err, if◌then◌else◌}
use Rattle.std.specs.List.{count_by}
use Rattle.std.specs.Option.{option_len}
use Rattle.isotp_receive.specs.declared.channel.Channel.TheVariants as dir
use Rattle.isotp_pdu.specs.Layout.{Layout}
use Rattle.isotp_pdu.specs.Layout as layout
use Rattle.isotp_receive.specs.declared.event.Reason.{Reason}
use Rattle.isotp_receive.specs.declared.event.Reason.TheVariants as reason
use Rattle.isotp_receive.specs.StandingReception.{stands}
use Rattle.isotp_receive.specs.Trace.{Entry}
use Rattle.isotp_receive.specs.Verdict.{VerdictValue, message, began, stored, flowed, dropped, EventValue, verdict}

-- what each of these frames does, where `past` came before them
abbrev pub events_after : ℕ → List Entry → List Entry → List EventValue
events_after limit past [] = []
events_after limit past (e ∷ rest) = verdict limit past e ∷ events_after limit (past ++ e ∷ []) rest

-- what each frame of the trace does
abbrev pub events : ℕ → List Entry → List EventValue
events limit T = events_after limit [] T

-- the frame was dropped
abbrev pub is_dropped : VerdictValue → Bool
is_dropped (dropped reason) = true
is_dropped (message bytes) = false
is_dropped began = false
is_dropped stored = false
is_dropped flowed = false

-- how many frames of the trace are dropped
abbrev pub dropped_in : ℕ → List Entry → ℕ
dropped_in limit T = count_by (λ (event : EventValue). is_dropped event.verdict) (events limit T)

-- how many end a reception before its message is complete
abbrev pub ended_in : ℕ → List Entry → ℕ
ended_in limit T = count_by (λ (event : EventValue). is_some event.ended) (events limit T)

-- how many receptions stand at the end
abbrev pub unfinished_in : ℕ → List Entry → ℕ
unfinished_in limit T = option_len (stands limit dir.Tester T) + option_len (stands limit dir.Unit T)

-- the length that a first frame announces, where it is above the limit
abbrev pub oversize_in : ℕ → Result Layout Reason → Option ℕ
oversize_in limit (Ok (layout.first announced rx_dl bytes)) = if nat_le announced limit then None else Some announced
oversize_in limit (Ok (layout.single whole)) = None
oversize_in limit (Ok (layout.consecutive sequence_number can_dl bytes)) = None
oversize_in limit (Ok (layout.flow_control status)) = None
oversize_in limit (Err fault) = None

-- the length that a dropped frame announced, where that was the reason
abbrev pub announced_by : Reason → Option ℕ
announced_by (reason.TooLong announced) = Some announced
announced_by (reason.Pdu fault) = None
announced_by reason.FunctionalNotSingle = None
announced_by reason.FlowUnexpected = None
announced_by reason.NextUnexpected = None
announced_by reason.NextLate = None
announced_by (reason.NextSequence expected found) = None
announced_by reason.NextLength = None

-- the announced length of a frame that is dropped as too long
abbrev pub too_long_in : VerdictValue → Option ℕ
too_long_in (dropped why) = announced_by why
too_long_in (message bytes) = None
too_long_in began = None
too_long_in stored = None
too_long_in flowed = None
