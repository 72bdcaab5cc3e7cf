-- What stops a run over a log, and which lines are read before. A strict command is also stopped by a first frame that
-- announces a message above the limit.
use Rattle.std.specs.Prelude.{ℕ, min, Bool, false, true, ⊤, List, Option, Ok, Err}
use Rattle.can_log.specs.declared.frame.Stamped.{Stamped}
use Rattle.trace_log.specs.declared.fault.Fault.{Fault}
use Rattle.trace_log.specs.declared.fault.Fault.TheVariants.{BadLine, Oversize, LogLimit, OutputLimit}
use Rattle.trace_log.specs.declared.fault.Fault.TheVariants.{Read, Write, Memory}
use Rattle.trace_log.specs.Answers.{TellsOutcome}
use Rattle.trace_log.specs.Outcome.{IsReadWhole}
use Rattle.trace_log.specs.Settings.{Settings}
use Rattle.trace_log.specs.LinesRead.{AreLinesRead}
use Rattle.trace_log.specs.ReadAs.{no_line, too_long, takes_all, IsReadAs}
use Rattle.trace_log.specs.Refusal.{announces_within, HasNoBadPlaceWithin, IsNotRefusedWithin}

-- whether the machine is told of the fault, as a refusal: for a line, or for the limit of the log
abbrev pub is_told : Fault → Bool
is_told (BadLine line column) = true
is_told LogLimit = true
is_told (Oversize line announced) = false
is_told OutputLimit = false
is_told Read = false
is_told Write = false
is_told Memory = false

-- where the fault tells why a log can't be read, that is so: no length that is announced is a reason
abbrev pub CantBeRead : Settings → List ℕ → Fault → Type 0
CantBeRead settings log (BadLine line column) = IsReadAs settings log (Err (no_line line column))
CantBeRead settings log LogLimit = IsReadAs settings log (Err too_long)
CantBeRead settings log (Oversize line announced) = ⊥
CantBeRead settings log OutputLimit = ⊥
CantBeRead settings log Read = ⊤
CantBeRead settings log Write = ⊤
CantBeRead settings log Memory = ⊤

-- Whether a command is strict is the first argument of the next four definitions.

-- the test that each line passes that does not stop a run
abbrev pub passing : Bool → ℕ → Settings → Option Stamped → Bool
passing true limit settings = announces_within limit settings
passing false limit settings = takes_all

-- the log can be read to its end, and its lines mean this
abbrev pub IsReadToEnd : Bool → ℕ → Settings → List ℕ → List (Option Stamped) → Type 0
IsReadToEnd true limit settings log meanings = IsReadWhole limit settings log meanings
IsReadToEnd false limit settings log meanings = IsReadAs settings log (Ok meanings)

-- where the fault tells why a run can't read the log to its end, that is so
abbrev pub IsUnreadFor : Bool → ℕ → Settings → List ℕ → Fault → Type 0
IsUnreadFor true limit settings log why = TellsOutcome limit settings log why
IsUnreadFor false limit settings log why = CantBeRead settings log why

-- nothing among the first `count` bytes of the log stops a run
abbrev pub StopsNothingWithin : Bool → ℕ → Settings → List ℕ → ℕ → Type 0
StopsNothingWithin true limit settings log = IsNotRefusedWithin limit settings log
StopsNothingWithin false limit settings log = HasNoBadPlaceWithin log

-- the lines that had ended among the first `count` bytes of the log, up to one that stops a run, mean this: an
-- unfinished last line does not count, nor does a byte past the limit
abbrev pub HadEnded : (Option Stamped → Bool) → Settings → List ℕ → ℕ → List (Option Stamped) → Type 0
HadEnded passes settings log count = AreLinesRead passes false (min count settings.max_bytes) log
