-- Devices of proof: frames, a message that is put, and the messages that are due with one more, said as canonical
-- lines.
use Rattle.std.specs.Prelude.{◌≡◌, ℕ, List, ◌++◌}
use Rattle.direction.specs.Dir.{Message}
use Rattle.direction.specs.declared.Dir.{Dir}
use Rattle.isotp_receive.specs.declared.TheConstants.{MESSAGE_LIMIT}
use Rattle.isotp_segment.specs.CanonicalFrames.{canonical_frames}
use Rattle.isotp_segment.specs.Timed.{all_frames}
use Rattle.uds_exchange.specs.Orderer.{IsDue}
use Rattle.trace_log.specs.Settings.{Settings}
use Rattle.trace_canon.specs.declared.canonical_sink.CanonicalSink.{CanonicalSink}
use Rattle.trace_canon.specs.proving.Writing.{ProgressValue, text_from, progress_after}

-- the lines of a message that was put were said
abbrev pub SaysPutMessage : {S : Type 0} → (S → List ℕ → S → Type 0) → CanonicalSink S → Dir → List ℕ → CanonicalSink S → Type 0
SaysPutMessage says s d message t =
    (t.out.ghost_name ≡ s.out.ghost_name) × (t.progress.ghost_name ≡ s.progress.ghost_name) × (t.config.now ≡ s.config.now)
    × (t.progress.now ≡ progress_after s.config.now s.progress.now (canonical_frames MESSAGE_LIMIT d message))
    × says s.out.now (text_from s.config.now s.progress.now (canonical_frames MESSAGE_LIMIT d message)) t.out.now

-- the lines of the messages that are due with this one were said
abbrev pub SaysDue : {S : Type 0} → (S → List ℕ → S → Type 0) → Settings → List Message → Message
    → ProgressValue → S → ProgressValue → S → Type 0
SaysDue says settings M message progress out progress_now out_now =
    (due : List Message) × IsDue M message due
    × (progress_now ≡ progress_after settings progress (all_frames MESSAGE_LIMIT due))
    × says out (text_from settings progress (all_frames MESSAGE_LIMIT due)) out_now

-- the lines of frames were said as far as those that are left
pub record SaysFront {S : Type 0} (says : S → List ℕ → S → Type 0) (settings : Settings)
    (progress : ProgressValue) (out : S) (frames : List (Dir × List ℕ))
    (progress_now : ProgressValue) (out_now : S) (left : List (Dir × List ℕ)) : Type 0 where
  pub said : (text : List ℕ) × (text_from settings progress frames ≡ text ++ text_from settings progress_now left)
      × says out text out_now
  pub stands : progress_after settings progress frames ≡ progress_after settings progress_now left
