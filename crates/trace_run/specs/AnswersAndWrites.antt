-- What a run over any command (`Script.antt`) answers and writes of a log. What this is of comes in one order: limit,
-- settings, log, how many bytes of it were given, fault or answer, and what was written before and after. What stands
-- in one module is of the same command and log.
use Rattle.std.specs.Prelude.{◌≡◌, ℕ, ◌-◌, ◌≤◌, ◌<◌, true, ◌⊎◌, List, ◌++◌, length, Option, Result, Ok, Err}
use Rattle.can_log.specs.declared.frame.Stamped.{Stamped}
use Rattle.trace_io.specs.Written.{HasFront}
use Rattle.trace_log.specs.declared.fault.Fault.{Fault}
use Rattle.trace_log.specs.declared.fault.Fault.TheVariants.{BadLine, Oversize, LogLimit, OutputLimit}
use Rattle.trace_log.specs.declared.fault.Fault.TheVariants.{Read, Write, Memory}
use Rattle.trace_log.specs.Answers.{piece_length}
use Rattle.trace_log.specs.Settings.{Settings}
use Rattle.trace_log.specs.Trace.{trace}
use Rattle.trace_log.specs.Summing.{summary_of}
use Rattle.trace_log.specs.LinesRead.{AreReadBefore, WritesTextOfRead, WritesFrontOfRead}
use Rattle.trace_run.specs.Script.{Command, Script}
use Rattle.trace_run.specs.Script.{refusal_of_lines, said_and_refusal_of_lines, said_of_lines, whole_of_lines}
use Rattle.trace_run.specs.declared.machine.NoAnswer.{NoAnswer}
use Rattle.trace_run.specs.declared.machine.NoAnswer.TheVariants as no_answer
use Rattle.trace_run.specs.Stopping.{is_told, passing, IsReadToEnd, IsUnreadFor, HadEnded}

-- What is written of a log of which so many bytes were given, by a script; `old` was written before.
module _ (script : Script) (limit : ℕ) (settings : Settings) (log : List ℕ) (given : ℕ) where
  -- exactly what is said of the lines read before the fault was written
  abbrev pub WritesSaid : Fault → List ℕ → List ℕ → Type 0
  WritesSaid =
      WritesTextOfRead (passing script.strict limit settings) (said_of_lines script settings) settings log given

  -- a front of what is said of the lines read before the fault was written
  abbrev pub WritesFrontOfSaid : Fault → List ℕ → List ℕ → Type 0
  WritesFrontOfSaid =
      WritesFrontOfRead (passing script.strict limit settings) (said_of_lines script settings) settings log given

  -- a front of all that is said of the lines read before the fault, as of a log that ends there, was written
  abbrev pub WritesFrontOfWhole : Fault → List ℕ → List ℕ → Type 0
  WritesFrontOfWhole =
      WritesFrontOfRead (passing script.strict limit settings)
      (whole_of_lines script limit settings log) settings log given

  -- What is said of the lines that were read before a write failed is something.
  pub record HasSomeToSay : Type 0 where
    pub meanings : List (Option Stamped)
    pub read : AreReadBefore (passing script.strict limit settings) settings log given Write meanings
    pub some : 0 < length (said_of_lines script settings meanings)

  -- What was written begins with what is said of the lines that had ended among all bytes given but the last 4,096.
  pub record WritesSaidEagerly (old new : List ℕ) : Type 0 where
    pub meanings : List (Option Stamped)
    pub read : HadEnded (passing script.strict limit settings) settings log (given - piece_length) meanings
    pub more : List ℕ
    pub wrote : new ≡ old ++ (said_of_lines script settings meanings ++ more)

-- What is answered on a log of which so many bytes were given, and written of it, by a command.
module _ {A : Type 0} (of : Command A) (limit : ℕ) (settings : Settings) (log : List ℕ) (given : ℕ) where
  -- where the fault tells why the run can't read the log to its end, that is so
  abbrev IsUnread : Fault → Type 0
  IsUnread = IsUnreadFor of.script.strict limit settings log

  -- all that is said of a log whose lines mean this
  abbrev whole : List (Option Stamped) → List ℕ
  whole = whole_of_lines of.script limit settings log

  -- the log can be read to its end, this is answered there, and all that is said of it was written
  abbrev pub EndsWith : Result A NoAnswer → List ℕ → List ℕ → Type 0
  EndsWith result old new =
      (length log ≤ given) × (meanings : List (Option Stamped)) × IsReadToEnd of.script.strict limit settings log meanings
      × of.answers (trace settings meanings) (summary_of limit settings log meanings) result
      × (new ≡ old ++ whole meanings)

  -- exactly what is said of the lines read before the fault, and of the refusal behind them, was written
  abbrev pub WritesSaidAndRefusal : Fault → List ℕ → List ℕ → Type 0
  WritesSaidAndRefusal why =
      WritesTextOfRead (passing of.script.strict limit settings)
      (said_and_refusal_of_lines of.script of.refusal limit settings why) settings log given why

  -- The log can be read to its end, and a front of all that is said of it, which is something, was written.
  pub record EndsUnwritten (old new : List ℕ) : Type 0 where
    pub meanings : List (Option Stamped)
    pub read : IsReadToEnd of.script.strict limit settings log meanings
    pub some : 0 < length (whole meanings)
    pub front : HasFront old (whole meanings) new

  -- A refusal that the machine is told refuses the log, and something is said of it: of all that is said then, a front
  -- was written.
  pub record RefusesUnwritten (old new : List ℕ) : Type 0 where
    pub why : Fault
    pub told : is_told why ≡ true
    pub refused : IsUnread why
    pub meanings : List (Option Stamped)
    pub read : AreReadBefore (passing of.script.strict limit settings) settings log given why meanings
    pub some : 0 < length (refusal_of_lines of.refusal limit settings why meanings)
    pub front : HasFront old (said_and_refusal_of_lines of.script of.refusal limit settings why meanings) new

  -- writing failed: while the log was read, where something was said of it, or at its end; or where it is refused
  abbrev pub FailsToWrite : List ℕ → List ℕ → Type 0
  FailsToWrite old new =
      (WritesFrontOfWhole of.script limit settings log given Write old new
      × (HasSomeToSay of.script limit settings log given ⊎ EndsUnwritten old new))
      ⊎ RefusesUnwritten old new

  -- What is answered, and what is then written: all that is said of a log that can be read, and an answer or that it is
  -- too long; what is said of the lines read before, where it can't be, or reading failed, and behind it what is said
  -- of a refusal for a line or the limit; and a front of what is said where writing failed or memory was refused.
  abbrev pub AnswersAndWrites : Result A Fault → List ℕ → List ℕ → Type 0
  AnswersAndWrites (Ok value) old new = EndsWith (Ok value) old new
  AnswersAndWrites (Err OutputLimit) old new = EndsWith (Err no_answer.OutputLimit) old new
  AnswersAndWrites (Err (BadLine line column)) old new =
      IsUnread (BadLine line column) × WritesSaidAndRefusal (BadLine line column) old new
  AnswersAndWrites (Err LogLimit) old new = IsUnread LogLimit × WritesSaidAndRefusal LogLimit old new
  AnswersAndWrites (Err (Oversize line announced)) old new =
      IsUnread (Oversize line announced)
      × WritesSaid of.script limit settings log given (Oversize line announced) old new
  AnswersAndWrites (Err Read) old new = WritesSaid of.script limit settings log given Read old new
  AnswersAndWrites (Err Write) old new = FailsToWrite old new
  AnswersAndWrites (Err Memory) old new = WritesFrontOfSaid of.script limit settings log given Memory old new
