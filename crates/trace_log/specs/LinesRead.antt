-- Which lines of a log were read when a run ended with a fault.
use Rattle.std.specs.Prelude.{◌≡◌, ℕ, ◌≤◌, ◌⊎◌, min, Bool, true, false, List, [], ◌∷◌, ◌++◌, length, Option, ⊤}
use Rattle.can_log.specs.Line.{LineMeans, IsNoLine}
use Rattle.can_log.specs.Log.{log_lines, LinesMean, ended_lines}
use Rattle.can_log.specs.declared.frame.Stamped.{Stamped}
use Rattle.trace_log.specs.declared.fault.Fault.{Fault}
use Rattle.trace_log.specs.declared.fault.Fault.TheVariants as fault
use Rattle.trace_log.specs.Settings.{Settings}
use Rattle.trace_log.specs.Refusal.{EachPasses}

-- an unfinished last line counts where all was given, except at a failed read, which doesn't tell that it was all
abbrev pub counts_last : Fault → Bool
counts_last fault.Read = false
counts_last (fault.BadLine line column) = true
counts_last (fault.Oversize line announced) = true
counts_last fault.LogLimit = true
counts_last fault.OutputLimit = true
counts_last fault.Write = true
counts_last fault.Memory = true

-- The first lines of the log were given with its first `count` bytes: their line feeds are among these; or the log has no
-- more, and an unfinished last line counts.
abbrev pub AreGiven : Bool → ℕ → List ℕ → List (List ℕ) → Type 0
AreGiven with_last count log lines = (length (ended_lines lines) ≤ count) ⊎ ((with_last ≡ true) × (length log ≤ count))

-- the line is one on which the test fails
abbrev pub FailsTest : (Option Stamped → Bool) → List ℕ → Type 0
FailsTest passes line = (what : Option Stamped) × LineMeans line what × (passes what ≡ false)

-- reading ended before these lines: there are none, or the first was not given, or is no line, or the test fails on it
abbrev pub EndsBefore : (Option Stamped → Bool) → Bool → ℕ → List ℕ → List (List ℕ) → List (List ℕ) → Type 0
EndsBefore passes with_last count log lines [] = ⊤
EndsBefore passes with_last count log lines (line ∷ later) =
    (¬ AreGiven with_last count log (lines ++ line ∷ [])) ⊎ (IsNoLine line ⊎ FailsTest passes line)

-- Lines that mean this were read of the log: those that were given with its first `count` bytes, up to the first that is
-- no line or on which the test fails.
pub record AreLinesRead (passes : Option Stamped → Bool) (with_last : Bool) (count : ℕ) (log : List ℕ) (meanings : List (Option Stamped)) : Type 0 where
  pub lines : List (List ℕ)
  pub later : List (List ℕ)
  pub parts : log_lines log ≡ lines ++ later
  pub means : LinesMean lines meanings
  pub each : EachPasses passes meanings
  pub given : AreGiven with_last count log lines
  pub ends : EndsBefore passes with_last count log lines later

-- Lines that mean this were read before the fault, where `given` bytes of the log had been given. No byte past the limit
-- counts.
abbrev pub AreReadBefore : (Option Stamped → Bool) → Settings → List ℕ → ℕ → Fault → List (Option Stamped) → Type 0
AreReadBefore passes settings log given fault meanings = AreLinesRead passes (counts_last fault) (min given settings.max_bytes) log meanings

-- What was written after `old` is exactly this text of the lines read before the fault.
pub record WritesTextOfRead (passes : Option Stamped → Bool) (text : List (Option Stamped) → List ℕ) (settings : Settings) (log : List ℕ) (given : ℕ) (fault : Fault)
    (old new : List ℕ) : Type 0 where
  pub meanings : List (Option Stamped)
  pub read : AreReadBefore passes settings log given fault meanings
  pub wrote : new ≡ old ++ text meanings

-- It is a front of this text of them.
pub record WritesFrontOfRead (passes : Option Stamped → Bool) (text : List (Option Stamped) → List ℕ) (settings : Settings) (log : List ℕ) (given : ℕ) (fault : Fault)
    (old new : List ℕ) : Type 0 where
  pub meanings : List (Option Stamped)
  pub read : AreReadBefore passes settings log given fault meanings
  pub written : List ℕ
  pub missing : List ℕ
  pub wrote : new ≡ old ++ written
  pub front : text meanings ≡ written ++ missing
