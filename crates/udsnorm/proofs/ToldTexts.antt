-- Texts told one after another.
use Rattle.std.proofs.Common.{◌≡◌, ℕ, ◌+◌, inl, inr, List, ◌++◌, ap, sym, ◌∙◌, append_assoc}
use Rattle.trace_io.specs.Written.{HasFront}
use Rattle.udsnorm.specs.Telling.{TookText}

-- all of one was taken, and what was taken of another came behind it
pub told_both : (a b : List ℕ) (failures failures_then failures_now : ℕ) (old mid new : List ℕ) → failures_then ≡ failures → mid ≡ old ++ a
    → TookText b failures_then failures_now mid new → TookText (a ++ b) failures failures_now old new
told_both a b failures failures_then failures_now old mid new well wrote (inl all) =
    inl (all.0 ∙ well, all.1 ∙ ap (λ text. text ++ b) wrote ∙ append_assoc old a b)
told_both a b failures failures_then failures_now old mid new well wrote (inr failed) =
    inr (
      failed.0 ∙ ap (λ n. n + 1) well,
      record {
        front = a ++ failed.1.front;
        rest = failed.1.rest;
        parts = ap (λ text. a ++ text) failed.1.parts ∙ sym (append_assoc a failed.1.front failed.1.rest);
        wrote = failed.1.wrote ∙ ap (λ text. text ++ failed.1.front) wrote ∙ append_assoc old a failed.1.front;
      },
    )

-- a front of one was taken, and nothing of the other
pub told_front : (a b : List ℕ) (failures failures_now : ℕ) (old new : List ℕ) → failures_now ≡ failures + 1 → HasFront old a new
    → TookText (a ++ b) failures failures_now old new
told_front a b failures failures_now old new failed wrote = inr (
  failed,
  record {
    front = wrote.front;
    rest = wrote.rest ++ b;
    parts = ap (λ text. text ++ b) wrote.parts ∙ append_assoc wrote.front wrote.rest b;
    wrote = wrote.wrote;
  },
)
