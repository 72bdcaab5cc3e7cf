-- Devices of proof: a flush that is due or not, behind a text that was written or not.
use Rattle.std.specs.Prelude.{◌≡◌, ◌+◌, Bool, true, false}
use Rattle.std.specs.Io.KnownBytes.{Keeps}
use Rattle.trace_io.specs.declared.device.Target.{Ghosts as TargetGhosts}

-- What a flush leaves as it was.
pub record KeptAll {W : Type 0} (target : TargetGhosts W) (old new : W) : Type 0 where
  pub taken : target.taken new ≡ target.taken old
  pub told : Keeps (target.contents old) (target.contents new)
  pub no_empty_write : target.had_empty_write new ≡ target.had_empty_write old

-- A flush was made where it was due, and failed or did not; else all is as it was.
abbrev pub FlushedIf : {W : Type 0} → TargetGhosts W → Bool → Bool → W → Bool → W → Type 0
FlushedIf target false wrote old result new = (result ≡ wrote) × (new ≡ old)
FlushedIf target true wrote old true new =
    KeptAll target old new × (target.failures new ≡ target.failures old) × (target.is_flushed new ≡ true) × (target.flushes new ≡ target.flushes old + 1)
FlushedIf target true wrote old false new = KeptAll target old new × (target.failures new ≡ target.failures old + 1) × (target.flushes new ≡ target.flushes old)
