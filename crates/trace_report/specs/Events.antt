-- The rows of a trace under rules: what the report tells of each frame, and of the end of the log, by the frames before
-- it. What frames did is told of the log as it is, and of messages what the rules leave.
use Rattle.std.specs.Prelude.{ℕ, ◌+◌, Bool, true, false, List, [], ◌∷◌, ◌++◌, Option, Some, None, if◌then◌else◌}
use Rattle.direction.specs.Dir.{Message}
use Rattle.direction.specs.declared.Dir.{Dir}
use Rattle.isotp_receive.specs.Channels.{dir_of, is_functional}
use Rattle.isotp_receive.specs.declared.event.Ended.{Ended}
use Rattle.isotp_receive.specs.StandingReception.{StandingReception, receptions_after, stands}
use Rattle.isotp_receive.specs.Trace.{Entry, FrameRole, single, first, consecutive, continue_or_wait, overflow, no_part, role}
use Rattle.isotp_receive.specs.Verdict.{VerdictValue, EventValue, message, began, stored, flowed, dropped, verdict}
use Rattle.uds_exchange.specs.Judging.{number_after, open_number, step_after}
use Rattle.uds_exchange.specs.Order.{open_request}
use Rattle.uds_exchange.specs.declared.step.Step.{Step}
use Rattle.uds_rules.specs.Rule.{RuleValue, made_of}
use Rattle.trace_log.specs.Messages.{messages_under}
use Rattle.trace_canon.specs.FirstFrames.{first_frame, place_of}
use Rattle.trace_report.specs.Rows.{RowValue}
use Rattle.trace_report.specs.Silences.{silence_of}
use Rattle.trace_report.specs.declared.row.MessagePlace.{MessagePlace}
use Rattle.trace_report.specs.Roles.{role_of_step}
use Rattle.direction.specs.declared.Dir.TheVariants as dir
use Rattle.uds_exchange.specs.declared.step.Step.TheVariants as becomes
use Rattle.trace_report.specs.Rows as row

-- a message begins an exchange, where this is what becomes of it
abbrev pub is_request_step : Step → Bool
is_request_step (becomes.Request service) = true
is_request_step becomes.Answer = false
is_request_step becomes.Removed = false
is_request_step becomes.Hold = false
is_request_step becomes.Pass = false

-- a message belongs to an exchange, where this is what becomes of it: it begins one, answers one, or says that the
-- answer will be late
abbrev pub is_exchange_step : Step → Bool
is_exchange_step (becomes.Request service) = true
is_exchange_step becomes.Answer = true
is_exchange_step becomes.Removed = true
is_exchange_step becomes.Hold = false
is_exchange_step becomes.Pass = false

-- the message that rules left of the one that the frame e completes after the frames T, if they left one, is such a
-- one, by what becomes of it
abbrev pub is_such_left : (Step → Bool) → ℕ → List RuleValue → List Entry → Entry → Option (List ℕ) → Bool
is_such_left such limit rules T e None = false
is_such_left such limit rules T e (Some bytes) = such (step_after (messages_under rules limit T) (dir_of e.channel, bytes))

-- the frame e completes such a message under rules after the frames T, where it does this there
abbrev pub completes_such_by : (Step → Bool) → ℕ → List RuleValue → List Entry → Entry → VerdictValue → Bool
completes_such_by such limit rules T e (message bytes) = is_such_left such limit rules T e (made_of rules bytes)
completes_such_by such limit rules T e began = false
completes_such_by such limit rules T e stored = false
completes_such_by such limit rules T e flowed = false
completes_such_by such limit rules T e (dropped reason) = false

-- the frame e completes such a message after the frames T
abbrev pub completes_such : (Step → Bool) → ℕ → List RuleValue → List Entry → Entry → Bool
completes_such such limit rules T e = completes_such_by such limit rules T e (verdict limit T e).verdict

-- the frame e completes a request after the frames T
abbrev pub completes_request : ℕ → List RuleValue → List Entry → Entry → Bool
completes_request limit rules T e = completes_such is_request_step limit rules T e

-- what is so of the last of these frames that completes such a message, where the frames `past` came before them;
-- `earlier` where none of them does
abbrev pub last_such_behind : {A : Type 0} → (Step → Bool) → (Entry → A) → ℕ → List RuleValue → A → List Entry → List Entry → A
last_such_behind such of limit rules earlier past [] = earlier
last_such_behind such of limit rules earlier past (e ∷ rest) =
    last_such_behind such of limit rules (if completes_such such limit rules past e then of e else earlier) (past ++ e ∷ []) rest

-- the time at which the last request of a trace was complete; 0 where it has none
abbrev pub asked_in : ℕ → List RuleValue → List Entry → ℕ
asked_in limit rules T = last_such_behind is_request_step (λ e. e.micros) limit rules 0 [] T

-- the last message of a trace that belongs to an exchange went to all units: so it is a request, and the unit has said
-- nothing of it, not even that an answer will be late
abbrev pub asked_all_in : ℕ → List RuleValue → List Entry → Bool
asked_all_in limit rules T = last_such_behind is_exchange_step (λ e. is_functional e.channel) limit rules false [] T

-- how many frames carry a message that a frame of this role completes, where this reception stands for its direction
abbrev pub frames_by : Option StandingReception → FrameRole → ℕ
frames_by standing (single whole) = 1
frames_by None (consecutive sequence_number can_dl bytes) = 1
frames_by (Some begun) (consecutive sequence_number can_dl bytes) = begun.taken + 2
frames_by standing (first start) = 1
frames_by standing continue_or_wait = 1
frames_by standing overflow = 1
frames_by standing no_part = 1

-- the place of what rules left of a message that the frame e completes after the frames T: its item, its first frame
-- and its last one, how many carry it, and whether it was sent to all units
abbrev pub message_place : ℕ → List RuleValue → List Entry → Entry → List ℕ → MessagePlace
message_place limit rules T e bytes = record {
  item = number_after (messages_under rules limit T) (dir_of e.channel, bytes);
  first = place_of (first_frame T e);
  last = place_of e;
  frames = frames_by (stands limit e.channel T) (role e.channel e);
  is_functional = is_functional e.channel;
}

-- the row that tells that the request of the open exchange has no answer, if one is open after these messages, which
-- need not concern this unit or does
abbrev pub waiting_row : List Message → Bool → Option (List ℕ) → List RowValue
waiting_row M to_all None = []
waiting_row M to_all (Some request) = row.no_answer (open_number M) (silence_of to_all request) ∷ []

-- the row that tells that a request has no answer, where these messages end with it unanswered
abbrev pub closing_rows : List Message → Bool → List RowValue
closing_rows M to_all = waiting_row M to_all (open_request M)

-- the rows that stand before the row of a message, where this is what becomes of it: a request closes the exchange
-- before it
abbrev pub closing_before : List Message → Bool → Step → List RowValue
closing_before M to_all step = if is_request_step step then closing_rows M to_all else []

-- the rows of what rules left of a message that the frame e completes after the frames T, where this is what becomes of
-- it: what closes before it, and its own
abbrev pub message_rows : ℕ → List RuleValue → List Entry → Entry → List ℕ → Step → List RowValue
message_rows limit rules T e bytes step =
    closing_before (messages_under rules limit T) (asked_all_in limit rules T) step
    ++ row.message (role_of_step (asked_in limit rules T) step (dir_of e.channel) bytes) (dir_of e.channel) (message_place limit rules T e bytes) bytes ∷ []

-- the rows of the message that rules left of the one that the frame e completes after the frames T, if they left one
abbrev pub left_rows : ℕ → List RuleValue → List Entry → Entry → Option (List ℕ) → List RowValue
left_rows limit rules T e None = []
left_rows limit rules T e (Some bytes) =
    message_rows limit rules T e bytes (step_after (messages_under rules limit T) (dir_of e.channel, bytes))

-- a frame ended no reception
abbrev pub ends_nothing : Option Ended → Bool
ends_nothing None = true
ends_nothing (Some end) = false

-- the rows that tell what the frame e does after the frames T; links lead to that of a dropped frame where this is said
abbrev pub verdict_rows : ℕ → List RuleValue → List Entry → Entry → Bool → VerdictValue → List RowValue
verdict_rows limit rules T e linked (message bytes) = left_rows limit rules T e (made_of rules bytes)
verdict_rows limit rules T e linked began = []
verdict_rows limit rules T e linked stored = []
verdict_rows limit rules T e linked flowed = []
verdict_rows limit rules T e linked (dropped reason) = row.dropped (place_of e) (dir_of e.channel) linked reason ∷ []

-- the row that tells which reception the frame e ended, if it ended one
abbrev pub ended_rows : Entry → Option Ended → List RowValue
ended_rows e None = []
ended_rows e (Some end) = row.ended (place_of e) end ∷ []

-- the rows that tell what the frame e ends and does after the frames T
abbrev pub event_rows : ℕ → List RuleValue → List Entry → Entry → EventValue → List RowValue
event_rows limit rules T e event = ended_rows e event.ended ++ verdict_rows limit rules T e (ends_nothing event.ended) event.verdict

-- the rows of the frame e after the frames T
abbrev pub frame_rows : ℕ → List RuleValue → List Entry → Entry → List RowValue
frame_rows limit rules T e = event_rows limit rules T e (verdict limit T e)

-- the rows of these frames, where the frames `past` came before them
abbrev pub rows_behind : ℕ → List RuleValue → List Entry → List Entry → List RowValue
rows_behind limit rules past [] = []
rows_behind limit rules past (e ∷ rest) = frame_rows limit rules past e ++ rows_behind limit rules (past ++ e ∷ []) rest

-- the rows of a trace, but for those of its end
abbrev pub rows_of : ℕ → List RuleValue → List Entry → List RowValue
rows_of limit rules T = rows_behind limit rules [] T

-- the row of a reception that stands at the end of the log, if one does
abbrev pub standing_row : Dir → Option StandingReception → List RowValue
standing_row d None = []
standing_row d (Some begun) = row.unfinished d begun.line begun.len ∷ []

-- the rows of the end of a log: the receptions that stand, the tester's first, and the request that waits
abbrev pub end_rows : ℕ → List RuleValue → List Entry → List RowValue
end_rows limit rules T =
    standing_row dir.Tester (receptions_after limit T).tester ++ standing_row dir.Unit (receptions_after limit T).unit
    ++ closing_rows (messages_under rules limit T) (asked_all_in limit rules T)
