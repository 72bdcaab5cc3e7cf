-- What holds of a run that reads a log, and writes nothing.
use Rattle.std.specs.Prelude.{◌≢◌, ℕ, List, Result, IfErr}
use Rattle.trace_io.specs.declared.device.Source.{Ghosts as SourceGhosts}
use Rattle.trace_log.specs.declared.fault.Fault.{Fault}
use Rattle.trace_log.specs.declared.fault.Fault.TheVariants.{Write}
use Rattle.trace_log.specs.Devices.{AgreesWith}
use Rattle.trace_canon.specs.WaysOfReading.{ReadInThisWay, WayOfReading}

-- All that a caller knows of a run that reads a log in this way. `Gives` says what it answers of a log.
pub record RanToRead {R A : Type 0} (source : SourceGhosts R) (Gives : List ℕ → Result A Fault → Type 0)
    (reading : WayOfReading) (before : R) (result : Result A Fault) (after : R) : Type 0 where
  -- what is answered, for each log with which the bytes that were read agree
  pub answer : (log : List ℕ) → AgreesWith source before after log → Gives log result
  -- how the log was read
  pub way : ReadInThisWay source reading before result after
  -- nothing is written
  pub never_write : IfErr result (λ fault. fault ≢ Write)
