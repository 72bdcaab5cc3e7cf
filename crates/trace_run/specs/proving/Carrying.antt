-- Devices of proof: a text that was said goes to a sheet and from there to a target.
use Rattle.std.specs.Prelude.{◌≡◌, length, ◌<◌, ℕ, ◌+◌, ◌^◌, ◌≤◌, Bool, true, false, not, List, [], ◌++◌}
use Rattle.trace_io.specs.Stream.{Took}
use Rattle.trace_io.specs.Written.{HasFront, IsWritten}
use Rattle.trace_io.specs.declared.device.Target.{Ghosts}
use Rattle.trace_run.specs.declared.sheet.Sheet.{Sheet}

-- all that was said was written but what is gathered on the sheet; or a front of it, where writing failed
abbrev pub HasCarried : Bool → List ℕ → List ℕ → List ℕ → List ℕ → Type 0
HasCarried false old said gathered new = IsWritten old said new gathered
HasCarried true old said gathered new = HasFront old said new

-- the count of failures, with one more where writing failed
abbrev pub failures_with : Bool → ℕ → ℕ
failures_with false failures = failures
failures_with true failures = failures + 1

-- a sheet with nothing on it, where writing failed or not
abbrev pub blank_sheet : Bool → Sheet
blank_sheet failed = record { gathered = []; failed = failed }

-- Since this start, this was said to a sheet, which may hold some of it.
pub record HasSaid {W : Type 0} (target : Ghosts W) (start : W) (said : List ℕ) (sheet : Sheet) (now : W) : Type 0 where
  pub low : target.failures start ≤ 2 ^ 62
  -- something was said where something is gathered, and where writing failed
  pub gathered_some : 0 < length sheet.gathered → 0 < length said
  pub failed_some : sheet.failed ≡ true → 0 < length said
  -- and where nothing was said, the target is as it was
  pub still : length said ≡ 0 → now ≡ start
  pub failures : target.failures now ≡ failures_with sheet.failed (target.failures start)
  pub no_empty_write : target.had_empty_write now ≡ target.had_empty_write start
  pub flushes : target.flushes now ≡ target.flushes start
  pub took : Took (target.taken start) (target.taken now) (target.contents start) (target.contents now)
  pub written : HasCarried sheet.failed (target.taken start) said sheet.gathered (target.taken now)

-- whatever was said to a sheet before, this text was said to it after it
abbrev pub Says : {W : Type 0} → Ghosts W → Sheet → W → List ℕ → Sheet → W → Type 0
Says {W = W} target sheet old text sheet_now new =
    (start : W) (said : List ℕ) → HasSaid target start said sheet old → HasSaid target start (said ++ text) sheet_now new

-- whatever was said to a sheet before is written now, or that failed, as is answered
abbrev pub Settles : {W : Type 0} → Ghosts W → Sheet → W → Bool → W → Type 0
Settles {W = W} target sheet old result new =
    (start : W) (said : List ℕ) → HasSaid target start said sheet old → HasSaid target start said (blank_sheet (not result)) new

-- whatever was said to a sheet before, the target has what it had at any time, and more behind it
abbrev pub WritesOn : {W : Type 0} → Ghosts W → Sheet → W → W → Type 0
WritesOn {W = W} target sheet old new =
    (mid : W) (said : List ℕ) → HasSaid target mid said sheet old
    → (more : List ℕ) × (target.taken new ≡ target.taken mid ++ more)

-- whatever was said to a sheet before, no more was said to it
abbrev pub SaysNoMore : {W : Type 0} → Ghosts W → Sheet → W → Sheet → W → Type 0
SaysNoMore {W = W} target sheet old sheet_now new =
    (start : W) (said : List ℕ) → HasSaid target start said sheet old → HasSaid target start said sheet_now new
