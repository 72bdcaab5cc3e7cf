-- What is kept of a session, with one more frame and at its end.
use Rattle.std.proofs.Common.{◌≡◌, ℕ, false, List, [], ◌∷◌, ◌++◌, Option, Some, None, Ok, Err, Result, refl, ap, sym, ◌∙◌}
use Rattle.std.specs.Prelude.{◌≢◌}
use Rattle.std.proofs.lemmas.Option.{none-some, same_Some}
use Rattle.isotp_receive.specs.declared.TheConstants.{MESSAGE_LIMIT}
use Rattle.isotp_receive.specs.Trace.{Entry}
use Rattle.trace_log.proofs.Promises.{has_own_frame}
use Rattle.trace_log.specs.Needing.{HasFrame}
use Rattle.trace_log.specs.Settings.{Settings}
use Rattle.trace_log.specs.Summing.{summary_of}
use Rattle.trace_run.proofs.Promises.{SaysNothing}
use Rattle.trace_run.specs.Stopping.{CantBeRead}
use Rattle.trace_run.specs.AnswersAndWrites.{AnswersAndWrites}
use Rattle.trace_log.specs.Trace.{trace}
use Rattle.trace_log.specs.declared.fault.Fault.{Fault}
use Rattle.trace_log.specs.declared.fault.Fault.TheVariants.{BadLine, Oversize, LogLimit, OutputLimit, Read, Write, Memory}
use Rattle.trace_log.specs.declared.summary.Summary.{Summary}
use Rattle.trace_report.specs.Events.{end_rows}
use Rattle.trace_report.specs.Kept.{KeepsOne, HasOwnFrame}
use Rattle.trace_report.specs.Page.{first_time, last_time}
use Rattle.trace_report.specs.Session.{SessionValue, session_of}
use Rattle.trace_report.specs.declared.keeper.Heard.{Heard}
use Rattle.trace_report.specs.declared.times.Times.{Times}
use Rattle.trace_report.specs.proving.Following.{rows_in, times_of}
use Rattle.trace_report.specs.proving.Heard.{IsHeardOf, quiet_command, quiet_script}
use Rattle.trace_report.specs.proving.Lending.{first_of_times, last_of_times}
use Rattle.trace_report.proofs.Steps.{times_next}

-- nothing is told
pub quiet_says_nothing : SaysNothing quiet_script
quiet_says_nothing = record { of_frame = λ T e. refl; at_the_end = λ T summary. refl }

-- the times with one more frame
pub times_go_on : (T : List Entry) (e : Entry) (times : Times) (micros : ℕ) → Some times ≡ times_of T → e.micros ≡ micros
    → Some (record { first = times.first; last = micros }) ≡ times_of (T ++ e ∷ [])
times_go_on [] e times micros is at = absurd (none-some times (sym is))
times_go_on (x ∷ T) e times micros is at =
    times_next (x ∷ T) e times.first micros (ap (λ (s : Times). s.first) (same_Some times (record { first = x.micros; last = last_time x.micros T }) is)) (sym at)

-- the times of a first frame
pub times_begin : (T : List Entry) (e : Entry) (micros : ℕ) → None ≡ times_of T → e.micros ≡ micros
    → Some (record { first = micros; last = micros }) ≡ times_of (T ++ e ∷ [])
times_begin [] e micros is at = times_next [] e micros micros (sym at) (sym at)
times_begin (x ∷ T) e micros is at = absurd (none-some (record { first = x.micros; last = last_time x.micros T }) is)

-- the times of a session
pub first_known : (T : List Entry) (times : Option Times) → times ≡ times_of T → first_of_times times ≡ first_time T
first_known [] times is = ap first_of_times is
first_known (x ∷ T) times is = ap first_of_times is

pub last_known : (T : List Entry) (times : Option Times) → times ≡ times_of T → last_of_times times ≡ last_time 0 T
last_known [] times is = ap last_of_times is
last_known (x ∷ T) times is = ap last_of_times is

module _ (settings : Settings) (log : List ℕ) (given : ℕ) (old new : List ℕ) where
  -- what is answered of a log that can't be read
  pub unread_so : (fault : Fault) → AnswersAndWrites (quiet_command settings.rules) MESSAGE_LIMIT settings log given (Err fault) old new
      → CantBeRead settings log fault
  unread_so (BadLine line column) answered = answered.0
  unread_so (Oversize line announced) answered = answered.0
  unread_so LogLimit answered = answered.0
  unread_so OutputLimit (all, meanings, read, answer, wrote) = absurd answer
  unread_so Read answered = tt
  unread_so Write answered = tt
  unread_so Memory answered = tt

  -- and of one that can, where this session is of what was heard
  pub read_so : (heard : Heard) (session : SessionValue)
      → ((T : List Entry) (summary : Summary) → IsHeardOf settings.rules T summary heard → session ≡ session_of MESSAGE_LIMIT settings.rules T summary)
      → AnswersAndWrites (quiet_command settings.rules) MESSAGE_LIMIT settings log given (Ok heard) old new → KeepsOne MESSAGE_LIMIT settings log (Ok session)
  read_so heard session is (all, meanings, read, answer, wrote) =
      (meanings, read, is (trace settings meanings) (summary_of MESSAGE_LIMIT settings log meanings) answer)

  -- the log has a frame where a row of its end is there
  pub has_own_where_kept : (heard : Heard) → rows_in heard.last ≢ []
      → AnswersAndWrites (quiet_command settings.rules) MESSAGE_LIMIT settings log given (Ok heard) old new
      → HasOwnFrame settings log
  has_own_where_kept heard some (all, meanings, read, answer, wrote) =
      has_own_frame settings log meanings read.1 (λ none. some (answer.last ∙ ap (λ (T : List Entry). end_rows MESSAGE_LIMIT settings.rules T) none))

-- and where a frame of it needs memory
pub has_own_where_needed : (needs : List Entry → Entry → Type 0) (settings : Settings) (log : List ℕ) → HasFrame needs settings log → HasOwnFrame settings log
has_own_where_needed needs settings log found =
    record { before = found.before; line = found.line; frame = found.frame; begins = found.begins; own = found.own; holds = tt }

-- the fault where there is one
abbrev pub fault_of : {A : Type 0} → Result A Fault → Fault
fault_of (Ok value) = Memory
fault_of (Err why) = why
