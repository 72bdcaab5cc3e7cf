-- A text that is written by itself, once all of it is known.
use Rattle.std.specs.Prelude.{◌≡◌, ◌<◌, List, ℕ, length, Result, IfErr, OnErr}
use Rattle.trace_io.specs.Written.{HasWritten}
use Rattle.trace_io.specs.declared.device.Target.{Ghosts}
use Rattle.trace_log.specs.declared.fault.Fault.{Fault}
use Rattle.trace_log.specs.declared.fault.Fault.TheVariants.{Write}
use Rattle.trace_log.specs.Devices.{WroteTo}

-- A target took all of a text, or a front of it where writing failed.
pub record Prints {A W : Type 0} (target : Ghosts W) (text : List ℕ) (old : W) (result : Result A Fault)
    (new : W) : Type 0 where
  pub written : HasWritten result (target.taken old) text (target.taken new)
  pub wrote : WroteTo target Write result old new
  pub only : IfErr result (λ fault. fault ≡ Write)
  -- there was something to write where writing failed
  pub some : OnErr result (0 < length text)
