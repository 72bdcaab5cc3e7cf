-- What is answered on a log, and what is then written.
use Rattle.std.specs.Prelude.{◌≡◌, ℕ, ◌-◌, ◌<◌, ◌≤◌, List, ◌++◌, length, Option, Some, None, IfSome, Result, Ok, Err}
use Rattle.can_log.specs.declared.frame.Stamped.{Stamped}
use Rattle.trace_log.specs.declared.fault.Fault.{Fault}
use Rattle.trace_log.specs.declared.fault.Fault.TheVariants.{BadLine, Oversize, LogLimit, OutputLimit, Read, Write, Memory}
use Rattle.trace_log.specs.declared.summary.Summary.{Summary}
use Rattle.trace_log.specs.Settings.{Settings}
use Rattle.trace_log.specs.CanonicalLog.{canonical_log_of_lines, fitting, early_text}
use Rattle.trace_log.specs.Refusal.{Refusal, bad_line, oversize_message, long_log, long_canonical_log, announces_within}
use Rattle.trace_log.specs.LinesRead.{AreReadBefore, WritesTextOfRead, WritesFrontOfRead}
use Rattle.trace_log.specs.Outcome.{Accepted, IsReadWhole, IsOutcome}

-- the most bytes that one read asks for
abbrev pub piece_length : ℕ
piece_length = 4096

-- Of `given` bytes this holds of the number of all but the last 4,096, as many as one read may bring; and of the number
-- of all where a read failed, for that read was the last and gave nothing.
pub record ReadsWhile (Holds : ℕ → Type 0) (given failures failures_now : ℕ) : Type 0 where
  pub before_piece : Holds (given - piece_length)
  pub before_failure : failures < failures_now → Holds given

-- What was written is exactly the text of the messages whose place is known from the lines read before the fault.
abbrev pub WritesEarly : ℕ → Settings → List ℕ → ℕ → Fault → List ℕ → List ℕ → Type 0
WritesEarly limit settings = WritesTextOfRead (announces_within limit settings) (early_text limit settings) settings

-- What was written is a front of the canonical log of the lines read before the fault.
abbrev pub WritesFront : ℕ → Settings → List ℕ → ℕ → Fault → List ℕ → List ℕ → Type 0
WritesFront limit settings = WritesFrontOfRead (announces_within limit settings) (canonical_log_of_lines limit settings) settings

-- What was written begins with the text of the messages whose place is known from the lines that had ended among all bytes
-- given but the last 4,096.
pub record WritesEagerly (limit : ℕ) (settings : Settings) (log : List ℕ) (given : ℕ) (old new : List ℕ) : Type 0 where
  pub meanings : List (Option Stamped)
  pub read : AreReadBefore (announces_within limit settings) settings log (given - piece_length) Read meanings
  pub more : List ℕ
  pub wrote : new ≡ old ++ (early_text limit settings meanings ++ more)

-- the refusal that a fault tells; none where a device failed or memory was refused
abbrev pub refusal_in : Fault → Option Refusal
refusal_in (BadLine line column) = Some (bad_line line column)
refusal_in (Oversize line announced) = Some (oversize_message line announced)
refusal_in LogLimit = Some long_log
refusal_in OutputLimit = Some long_canonical_log
refusal_in Read = None
refusal_in Write = None
refusal_in Memory = None

-- where the fault tells a refusal, the log is refused so
abbrev pub TellsOutcome : ℕ → Settings → List ℕ → Fault → Type 0
TellsOutcome limit settings log fault = IfSome (refusal_in fault) (λ refusal. IsOutcome limit settings log (Err refusal))

-- What is written where a run ends with this fault: the text of the messages whose place is known from the lines read
-- before it; as much of the canonical log as is within the limit, where that is too long, which is known once the whole log
-- was given; and a front of the canonical log of the lines read where writing failed or memory was refused, which begins
-- with the text of the messages whose place was known before the last piece.
abbrev pub Leaves : ℕ → Settings → List ℕ → ℕ → Fault → List ℕ → List ℕ → Type 0
Leaves limit settings log given (BadLine line column) old new = WritesEarly limit settings log given (BadLine line column) old new
Leaves limit settings log given (Oversize line announced) old new = WritesEarly limit settings log given (Oversize line announced) old new
Leaves limit settings log given LogLimit old new = WritesEarly limit settings log given LogLimit old new
Leaves limit settings log given Read old new = WritesEarly limit settings log given Read old new
Leaves limit settings log given OutputLimit old new =
    (length log ≤ given) × (meanings : List (Option Stamped)) × IsReadWhole limit settings log meanings × (new ≡ old ++ fitting settings (canonical_log_of_lines limit settings meanings))
Leaves limit settings log given Write old new = WritesFront limit settings log given Write old new × WritesEagerly limit settings log given old new
Leaves limit settings log given Memory old new = WritesFront limit settings log given Memory old new × WritesEagerly limit settings log given old new

-- What a run answers on a log, of which `given` bytes were given, and what is then written where `old` was before: the
-- canonical log and the summary of an accepted one; else why it is refused, and what that leaves.
abbrev pub Answers : ℕ → Settings → List ℕ → ℕ → Result Summary Fault → List ℕ → List ℕ → Type 0
Answers limit settings log given (Ok summary) old new =
    (accepted : Accepted) × IsOutcome limit settings log (Ok accepted) × (accepted.summary ≡ summary) × (new ≡ old ++ accepted.text)
Answers limit settings log given (Err fault) old new = TellsOutcome limit settings log fault × Leaves limit settings log given fault old new
