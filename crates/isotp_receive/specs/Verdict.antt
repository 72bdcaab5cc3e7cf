-- What a frame does after the frames before it, and the messages of a trace.
use Rattle.std.specs.Prelude.{ℕ, List, [], ◌∷◌, ◌++◌, take, nat_le, ◌==◌, if◌then◌else◌, Option, Some, None}
use Rattle.std.specs.Prelude.{Result, Ok, Err}
use Rattle.direction.specs.Dir.{other_direction, Message}
use Rattle.direction.specs.declared.Dir.{Dir}
use Rattle.isotp_pdu.specs.Layout.{Layout}
use Rattle.isotp_receive.specs.Channels.{dir_of, other_channel}
use Rattle.isotp_pdu.specs.Layout as layout
use Rattle.isotp_pdu.specs.declared.PduFault.{PduFault}
use Rattle.isotp_pdu.specs.declared.Status.{Status}
use Rattle.isotp_pdu.specs.declared.Status.TheVariants.{Continue, Wait, Overflow}
use Rattle.isotp_receive.specs.declared.event.Cause.{Cause}
use Rattle.isotp_receive.specs.declared.event.Cause.TheVariants as cause
use Rattle.isotp_receive.specs.declared.event.Ended.{Ended}
use Rattle.isotp_receive.specs.declared.event.Reason.{Reason}
use Rattle.isotp_receive.specs.declared.event.Reason.TheVariants as reason
use Rattle.isotp_receive.specs.Trace.{Entry, layout_in}
use Rattle.isotp_receive.specs.Fit.{Fit, late, wrong_number, wrong_length, one_more, last}
use Rattle.isotp_receive.specs.StandingReception.{StandingReception, expected, fit_of, stands}

-- what becomes of a frame: it completes a message, begins a reception, is stored, is flow control, or is dropped
pub data VerdictValue : Type 0 where
  message : List ℕ → VerdictValue
  began : VerdictValue
  stored : VerdictValue
  flowed : VerdictValue
  dropped : Reason → VerdictValue

-- the reception that the frame ends, if it ends one, and what becomes of the frame
pub record EventValue : Type 0 where
  pub ended : Option Ended
  pub verdict : VerdictValue

-- what ends for this cause, where this stands for d, if anything does
abbrev pub ended_as : Cause → Dir → Option StandingReception → Option Ended
ended_as cause d None = None
ended_as cause d (Some standing) = Some (record { dir = d; begun_line = standing.line; len = standing.len; cause = cause })

-- a frame that is refused, and ends this
abbrev pub refused : Option Ended → Reason → EventValue
refused ended reason = record { ended = ended; verdict = dropped reason }

-- a consecutive frame that fits so: it is refused and ends what stands, or is stored, or completes the message
abbrev pub on_fit : Dir → StandingReception → Fit → ℕ → List ℕ → EventValue
on_fit d standing late sequence_number bytes = refused (ended_as cause.Late d (Some standing)) reason.NextLate
on_fit d standing wrong_number sequence_number bytes =
    refused (ended_as cause.Sequence d (Some standing)) (reason.NextSequence (expected standing) sequence_number)
on_fit d standing wrong_length sequence_number bytes = refused (ended_as cause.Length d (Some standing)) reason.NextLength
on_fit d standing one_more sequence_number bytes = record { ended = None; verdict = stored }
on_fit d standing last sequence_number bytes = record { ended = None; verdict = message (take standing.len (standing.bytes ++ bytes)) }

-- a consecutive frame, by how it fits what stands
abbrev pub on_consecutive : Dir → Option StandingReception → ℕ → ℕ → ℕ → List ℕ → EventValue
on_consecutive d None micros sequence_number can_dl bytes = refused None reason.NextUnexpected
on_consecutive d (Some standing) micros sequence_number can_dl bytes =
    on_fit d standing (fit_of standing micros sequence_number can_dl) sequence_number bytes

-- a continue or wait frame is expected where this stands for the other direction
abbrev pub on_continue_or_wait : Option StandingReception → EventValue
on_continue_or_wait None = refused None reason.FlowUnexpected
on_continue_or_wait (Some standing) = record { ended = None; verdict = flowed }

-- an overflow frame, where that took no consecutive frame yet, and then ends it
abbrev pub on_overflow : Dir → Option StandingReception → EventValue
on_overflow other None = refused None reason.FlowUnexpected
on_overflow other (Some standing) =
    if standing.taken == 0 then record { ended = ended_as cause.Overflow other (Some standing); verdict = flowed }
    else refused None reason.FlowUnexpected

-- a flow control frame by its status
abbrev pub on_flow_control : Dir → Option StandingReception → Status → EventValue
on_flow_control other standing Continue = on_continue_or_wait standing
on_flow_control other standing Wait = on_continue_or_wait standing
on_flow_control other standing Overflow = on_overflow other standing

-- a frame of direction d with this layout or fault, at this time, where own stands for d and others for the other direction
abbrev pub on_layout : ℕ → Dir → Option StandingReception → Option StandingReception → ℕ → Result Layout Reason → EventValue
on_layout limit d own others micros (Err why) = refused None why
on_layout limit d own others micros (Ok (layout.single whole)) = record { ended = ended_as cause.NewStart d own; verdict = message whole }
on_layout limit d own others micros (Ok (layout.first len rx_dl bytes)) =
    record { ended = ended_as cause.NewStart d own; verdict = if nat_le len limit then began else dropped (reason.TooLong len) }
on_layout limit d own others micros (Ok (layout.consecutive sequence_number can_dl bytes)) = on_consecutive d own micros sequence_number can_dl bytes
on_layout limit d own others micros (Ok (layout.flow_control status)) = on_flow_control (other_direction d) others status

-- what becomes of a frame to all units with this layout or fault, by itself alone: `to_all`, as a verdict
abbrev pub told_to_all : Result Layout PduFault → VerdictValue
told_to_all (Ok (layout.single whole)) = message whole
told_to_all (Ok (layout.first len rx_dl bytes)) = dropped reason.FunctionalNotSingle
told_to_all (Ok (layout.consecutive sequence_number can_dl bytes)) = dropped reason.FunctionalNotSingle
told_to_all (Ok (layout.flow_control status)) = dropped reason.FunctionalNotSingle
told_to_all (Err fault) = dropped (reason.Pdu fault)

-- what the frame e does after the frames T
unfoldable pub verdict : ℕ → List Entry → Entry → EventValue
verdict limit T e =
    on_layout limit (dir_of e.channel) (stands limit e.channel T) (stands limit (other_channel e.channel) T) e.micros (layout_in e)

-- the message of a verdict, with its direction
abbrev pub told_message : Dir → VerdictValue → List Message
told_message d (message bytes) = (d, bytes) ∷ []
told_message d began = []
told_message d stored = []
told_message d flowed = []
told_message d (dropped reason) = []

-- the messages that these frames deliver after the frames `past`
abbrev pub messages_after : ℕ → List Entry → List Entry → List Message
messages_after limit past [] = []
messages_after limit past (e ∷ rest) = told_message (dir_of e.channel) (verdict limit past e).verdict ++ messages_after limit (past ++ e ∷ []) rest

-- the messages that a trace delivers, in order
abbrev pub messages : ℕ → List Entry → List Message
messages limit T = messages_after limit [] T
