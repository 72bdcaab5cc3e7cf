-- What a device took of a text that it was told.
use Rattle.std.specs.Prelude.{◌≡◌, ℕ, ◌+◌, ◌⊎◌, Bool, true, List, ◌++◌, if◌then◌else◌}
use Rattle.trace_io.specs.Stream.{Took}
use Rattle.trace_io.specs.Written.{HasFront}
use Rattle.trace_io.specs.declared.device.Target.{Ghosts as TargetGhosts}

-- the device took all of the text, or failed once and took a front of it; and it took nothing else
abbrev pub TookText : List ℕ → ℕ → ℕ → List ℕ → List ℕ → Type 0
TookText text failures failures_after old new =
    ((failures_after ≡ failures) × (new ≡ old ++ text)) ⊎ ((failures_after ≡ failures + 1) × HasFront old text new)

-- A target was given a text, and it failed once where that could not be written.
pub record WroteText {W : Type 0} (target : TargetGhosts W) (text : List ℕ) (wrote : Bool) (old new : W) : Type 0 where
  -- it took all of it, or a front where writing failed; where it tells the bytes that it holds, those came behind them
  pub front : HasFront (target.taken old) text (target.taken new)
  pub whole : wrote ≡ true → target.taken new ≡ target.taken old ++ text
  pub took : Took (target.taken old) (target.taken new) (target.contents old) (target.contents new)
  pub failures : target.failures new ≡ (if wrote then target.failures old else target.failures old + 1)
  -- no write was empty
  pub no_empty_write : target.had_empty_write new ≡ target.had_empty_write old
