-- Why a request has no answer (ISO 14229-1, section 7.5): it asked for no positive one, or it went to all units and
-- need not concern this one (functional addressing), or one was due. One is due behind a response pending, since that
-- says that the unit is at work on it.
use Rattle.std.specs.Prelude.{ℕ, Bool, true, false, List, if◌then◌else◌}
use Rattle.uds_message.specs.Message.{is_suppressing}
use Rattle.trace_report.specs.declared.row.Silence.{Silence}
use Rattle.trace_report.specs.declared.row.Silence.TheVariants.{Suppressed, ToAllUnits, Unanswered}

-- a request that asked for a positive answer and has none, which went to all units or to one
abbrev pub silence_of_asked : Bool → Silence
silence_of_asked true = ToAllUnits
silence_of_asked false = Unanswered

-- a request that has no answer, which went to all units or to one
abbrev pub silence_of : Bool → List ℕ → Silence
silence_of to_all request = if is_suppressing request then Suppressed else silence_of_asked to_all

-- why a request has no final answer behind a response pending, by why it would have none without that
abbrev pub silence_behind_pending : Silence → Silence
silence_behind_pending Suppressed = Suppressed
silence_behind_pending ToAllUnits = Unanswered
silence_behind_pending Unanswered = Unanswered

-- the request asked for no positive answer, where this is why it has none
abbrev pub is_suppressed : Silence → Bool
is_suppressed Suppressed = true
is_suppressed ToAllUnits = false
is_suppressed Unanswered = false
