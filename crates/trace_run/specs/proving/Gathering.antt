-- Devices of proof: a text that is gathered.
use Rattle.std.specs.Prelude.{List, ℕ, Result, Ok, Err}
use Rattle.trace_io.specs.Written.{HasFront, IsWritten}

-- what became of a text that was gathered: all of it was written but what is on the sheet; or a front of it, where
-- writing failed
abbrev pub HasGathered : {A E : Type 0} → Result A E → List ℕ → List ℕ → List ℕ → List ℕ → Type 0
HasGathered (Ok value) old text new gathered = IsWritten old text new gathered
HasGathered (Err fault) old text new gathered = HasFront old text new
