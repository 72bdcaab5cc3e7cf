-- The frames of several messages, one message after another: those of each message are in the trace where it begins.
use Rattle.std.proofs.Common.{◌≡◌, ℕ, ◌+◌, List, [], ◌∷◌, ◌++◌, length, refl, sym, ◌∙◌, ap, arith, length-append, append_assoc}
use Rattle.std.specs.List.{AllByRecursion}
use Rattle.std.proofs.lemmas.List.{append-nil}
use Rattle.direction.specs.Dir.{Message}
use Rattle.direction.specs.declared.Dir.{Dir}
use Rattle.can_log.specs.declared.frame.Id.{Id}
use Rattle.isotp_segment.specs.CanonicalFrames.{frame_count, canonical_frames}
use Rattle.isotp_segment.specs.Timed.{timed, HasFrames, all_frames}
use Rattle.isotp_segment.proofs.Frames.{length-canonical_frames}
use Rattle.isotp_segment.proofs.TimedFrames.{StandFrom, frames-stand, length-timed}

-- the frames of the messages are the last of `frames`, from position `begun` on
pub record AreLastFrom (limit : ℕ) (frames : List (Dir × List ℕ)) (M : List Message) (begun : ℕ) : Type 0 where
  pub before : List (Dir × List ℕ)
  pub splits : frames ≡ before ++ all_frames limit M
  pub place : begun ≡ length before
  pub sizes : AllByRecursion (HasFrames limit) M

pub all-of-them : (limit : ℕ) (M : List Message) → AllByRecursion (HasFrames limit) M → AreLastFrom limit (all_frames limit M) M 0
all-of-them limit M sizes = record { before = []; splits = refl; place = refl; sizes = sizes }

pub those-behind : (limit : ℕ) (frames : List (Dir × List ℕ)) (x : Message) (M : List Message) (begun : ℕ)
    → AreLastFrom limit frames (x ∷ M) begun → AreLastFrom limit frames M (begun + frame_count (length x.1))
those-behind limit frames x M begun last = record {
  before = last.before ++ canonical_frames limit x.0 x.1;
  splits = last.splits ∙ sym (append_assoc last.before (canonical_frames limit x.0 x.1) (all_frames limit M));
  place = omega (
    arith,
    last.place,
    length-append last.before (canonical_frames limit x.0 x.1),
    length-canonical_frames limit x.0 x.1 last.sizes.0.some last.sizes.0.fits,
  );
  sizes = last.sizes.1;
}

pub those-of-first : (identifier : Dir → Id) (line micros limit : ℕ) (frames : List (Dir × List ℕ)) (x : Message) (M : List Message) (begun : ℕ)
    → AreLastFrom limit frames (x ∷ M) begun → StandFrom identifier line micros (timed identifier line micros frames) x.0 x.1 begun
those-of-first identifier line micros limit frames x M begun last =
    frames-stand identifier line micros limit frames last.before (all_frames limit M) x.0 x.1 begun last.splits last.place
    last.sizes.0.some last.sizes.0.fits

-- where no message is left, the trace ends
pub none-left : (identifier : Dir → Id) (line micros limit : ℕ) (frames : List (Dir × List ℕ)) (begun : ℕ)
    → AreLastFrom limit frames [] begun → begun ≡ length (timed identifier line micros frames)
none-left identifier line micros limit frames begun last =
    last.place ∙ sym (ap length (last.splits ∙ append-nil last.before)) ∙ sym (length-timed identifier line micros frames)
