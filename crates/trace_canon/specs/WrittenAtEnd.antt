-- A text of a log that is written by itself, once all of it is known.
use Rattle.std.specs.Prelude.{◌≡◌, ◌≢◌, ◌<◌, List, ℕ, ◌++◌, length, Result, Ok, Err, IfErr}
use Rattle.trace_io.specs.Written.{HasFront}
use Rattle.trace_io.specs.declared.device.Source.{Ghosts as SourceGhosts}
use Rattle.trace_io.specs.declared.device.Target.{Ghosts as TargetGhosts}
use Rattle.trace_canon.specs.WaysOfReading.{ReadInThisWay, WayOfReading}
use Rattle.trace_log.specs.declared.fault.Fault.{Fault}
use Rattle.trace_log.specs.declared.fault.Fault.TheVariants.{BadLine, Oversize, LogLimit, OutputLimit, Read, Write, Memory}
use Rattle.trace_log.specs.declared.summary.Summary.{Summary}
use Rattle.trace_log.specs.Devices.{AgreesWith, WroteTo}

-- A text that a call writes of a log.
pub record TextOfLog (V : Type 0) : Type 1 where
  -- the text of such a value
  pub text : V → List ℕ
  -- this value is that of the log, with these counts
  pub gives : List ℕ → V → Summary → Type 0
  -- for this fault the log has none
  pub lacks : List ℕ → Fault → Type 0
  -- how the call reads a log
  pub reading : WayOfReading

-- What is written of a log after `old` where its call ends with this fault: a front of the text, which has bytes, where
-- writing failed, and else nothing.
abbrev pub LeavesAtEnd : {V : Type 0} → TextOfLog V → List ℕ → Fault → List ℕ → List ℕ → Type 0
LeavesAtEnd {V = V} of log Write old new =
    (value : V) × (summary : Summary) × of.gives log value summary × (0 < length (of.text value))
    × HasFront old (of.text value) new
LeavesAtEnd of log (BadLine line column) old new = new ≡ old
LeavesAtEnd of log (Oversize line announced) old new = new ≡ old
LeavesAtEnd of log LogLimit old new = new ≡ old
LeavesAtEnd of log OutputLimit old new = new ≡ old
LeavesAtEnd of log Read old new = new ≡ old
LeavesAtEnd of log Memory old new = new ≡ old

-- What is answered on a log by a call that writes a text at its end alone, and what is then written where `old` was
-- before: the text, and the counts; else a fault, which is known for what it is, and what that leaves.
abbrev pub WritesAtEnd : {V : Type 0} → TextOfLog V → List ℕ → Result Summary Fault → List ℕ → List ℕ → Type 0
WritesAtEnd {V = V} of log (Ok summary) old new = (value : V) × of.gives log value summary × (new ≡ old ++ of.text value)
WritesAtEnd of log (Err fault) old new = of.lacks log fault × LeavesAtEnd of log fault old new

-- A run that reads a log, and then writes a text of it by itself: all that a caller knows of it.
pub record RanAtEnd {V R W : Type 0} (source : SourceGhosts R) (target : TargetGhosts W) (of : TextOfLog V)
    (before : R) (old : W) (result : Result Summary Fault) (after : R) (new : W) : Type 0 where
  -- what is answered and written, for each log with which the bytes that were read agree
  pub answer : (log : List ℕ) → AgreesWith source before after log
      → WritesAtEnd of log result (target.taken old) (target.taken new)
  -- where there is no such text, the target is left alone
  pub unwritten : IfErr result (λ fault. fault ≢ Write → new ≡ old)
  -- how the log was read
  pub way : ReadInThisWay source of.reading before result after
  -- what was done with the target
  pub wrote : WroteTo target Write result old new
