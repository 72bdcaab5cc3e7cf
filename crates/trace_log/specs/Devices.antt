-- What a run does with the devices that it reads from and writes to.
use Rattle.std.specs.Prelude.{◌≡◌, ◌≢◌, ℕ, ◌+◌, ◌-◌, ◌≤◌, List, length, true, Result, Err, OnOk}
use Rattle.std.specs.Io.KnownBytes.{IsAtEnd}
use Rattle.trace_io.specs.Counted.{AreLowCounts}
use Rattle.trace_io.specs.Stream.{Agrees, Gave, Took}
use Rattle.trace_io.specs.declared.device.Source.{Ghosts as SourceGhosts}
use Rattle.trace_io.specs.declared.device.Target.{Ghosts as TargetGhosts}
use Rattle.trace_log.specs.Failing.{FailedIf}

-- a source whose counts are still far from where they would end
abbrev pub HasLowCounts : {R : Type 0} → SourceGhosts R → R → Type 0
HasLowCounts source now = AreLowCounts (source.reads now) (length (source.given now)) (source.failures now)

-- what a source gave from one state of it on up to another agrees with this log
abbrev pub AgreesWith : {R : Type 0} → SourceGhosts R → R → R → List ℕ → Type 0
AgreesWith source before after log = Agrees (source.given before) (source.given after) (source.is_over after) log

-- how many bytes it gave
abbrev pub bytes_given : {R : Type 0} → SourceGhosts R → R → R → ℕ
bytes_given source before after = length (source.given after) - length (source.given before)

-- A source was read within a limit, up to this answer; `fault` is what a failed read is called.
pub record ReadFrom {R A E : Type 0} (source : SourceGhosts R) (fault : E) (max_bytes : ℕ) (result : Result A E) (before after : R) : Type 0 where
  -- where all is well, the source was read to its end
  pub over : OnOk result (source.is_over after ≡ true)
  -- where it tells the bytes to come, it gave these, and none is left at its end
  pub gave : Gave (source.given before) (source.given after) (source.remaining before) (source.remaining after)
  pub ended : (source.is_over before ≡ true → IsAtEnd (source.remaining before)) → source.is_over after ≡ true → IsAtEnd (source.remaining after)
  -- it gave at most one byte more than the limit, and each read but the last gave one
  pub within : length (source.given after) ≤ length (source.given before) + max_bytes + 1
  pub calls : source.reads after ≤ source.reads before + max_bytes + 1
  pub progress : source.reads after ≤ source.reads before + (length (source.given after) - length (source.given before)) + 1
  -- the fault comes exactly where a read failed
  pub failed : FailedIf fault result (source.failures before) (source.failures after)

-- A target was written to, up to this answer; `fault` is what a failed write is called.
pub record WroteTo {W A E : Type 0} (target : TargetGhosts W) (fault : E) (result : Result A E) (old new : W) : Type 0 where
  -- where it tells the bytes that it holds, those that it took came behind them
  pub took : Took (target.taken old) (target.taken new) (target.contents old) (target.contents new)
  -- no write was empty: each took a byte, or was the last
  pub no_empty_write : target.had_empty_write new ≡ target.had_empty_write old
  -- and it was not flushed
  pub flushes : target.flushes new ≡ target.flushes old
  -- where it took nothing, and no write failed, it was left alone
  pub left_alone : result ≢ Err fault → target.taken new ≡ target.taken old → new ≡ old
  -- the fault comes exactly where a write failed
  pub failed : FailedIf fault result (target.failures old) (target.failures new)
