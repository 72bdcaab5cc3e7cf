-- A text of which a front was written: the rest of it written too, and texts that are gathered one after another.
use Rattle.std.proofs.Common.{◌≡◌, ℕ, List, [], ◌++◌, refl, ap, sym, subst, ◌∙◌, append-nil, append_assoc, Result, Ok, Err}
use Rattle.trace_io.specs.Written.{HasFront, IsWritten, HasWritten}
use Rattle.trace_run.specs.proving.Gathering.{HasGathered}

-- all was written
pub written_all : (old text new rest : List ℕ) → IsWritten old text new rest → rest ≡ [] → new ≡ old ++ text
written_all old text new rest is none =
    is.wrote ∙ ap (λ x. old ++ x) (sym (is.parts ∙ ap (λ x. is.front ++ x) none ∙ append-nil is.front))

-- a front of the rest was written
front_more : (old text mid gathered later new : List ℕ) → IsWritten old text mid (gathered ++ later) → HasFront mid gathered new
    → HasFront old text new
front_more old text mid gathered later new is more = record {
  front = is.front ++ more.front;
  rest = more.rest ++ later;
  parts = is.parts ∙ ap (λ x. is.front ++ (x ++ later)) more.parts ∙ ap (λ x. is.front ++ x) (append_assoc more.front more.rest later)
      ∙ sym (append_assoc is.front more.front (more.rest ++ later));
  wrote = more.wrote ∙ ap (λ x. x ++ more.front) is.wrote ∙ append_assoc old is.front more.front;
}

-- what was gathered before the rest was written
pub gathered_front_written : (old text mid gathered later new : List ℕ) → IsWritten old text mid (gathered ++ later) → new ≡ mid ++ gathered
    → IsWritten old text new later
gathered_front_written old text mid gathered later new is more = record {
  front = is.front ++ gathered;
  parts = is.parts ∙ sym (append_assoc is.front gathered later);
  wrote = more ∙ ap (λ x. x ++ gathered) is.wrote ∙ append_assoc old is.front gathered;
}

-- what was gathered was written, or a front of it, and nothing stands behind it
gathered_ended : {A E : Type 0} (result : Result A E) (old text mid gathered new : List ℕ) → IsWritten old text mid (gathered ++ [])
    → HasWritten result mid gathered new → HasWritten result old text new
gathered_ended (Ok value) old text mid gathered new is wrote =
    written_all old text new [] (gathered_front_written old text mid gathered [] new is wrote) refl
gathered_ended (Err fault) old text mid gathered new is wrote = front_more old text mid gathered [] new is wrote

-- the rest in other words
pub rest_along : (old text new rest other : List ℕ) → IsWritten old text new rest → rest ≡ other
    → IsWritten old text new other
rest_along old text new rest other is same = subst (IsWritten old text new) same is

-- ---- texts gathered one after another

-- a front of a text begins each longer one
pub front_longer : (old a b new : List ℕ) → HasFront old a new → HasFront old (a ++ b) new
front_longer old a b new is = record {
  front = is.front;
  rest = is.rest ++ b;
  parts = ap (λ x. x ++ b) is.parts ∙ append_assoc is.front is.rest b;
  wrote = is.wrote;
}

-- all of a text, and then a front of what follows it
pub front_behind : (old a b mid gathered new : List ℕ) → IsWritten old a mid gathered → HasFront mid (gathered ++ b) new
    → HasFront old (a ++ b) new
front_behind old a b mid gathered new is more = record {
  front = is.front ++ more.front;
  rest = more.rest;
  parts = ap (λ x. x ++ b) is.parts ∙ append_assoc is.front gathered b ∙ ap (λ x. is.front ++ x) more.parts
      ∙ sym (append_assoc is.front more.front more.rest);
  wrote = more.wrote ∙ ap (λ x. x ++ more.front) is.wrote ∙ append_assoc old is.front more.front;
}

-- and then all of it
pub written_behind : (old a b mid gathered new rest : List ℕ) → IsWritten old a mid gathered → IsWritten mid (gathered ++ b) new rest
    → IsWritten old (a ++ b) new rest
written_behind old a b mid gathered new rest is more = record {
  front = is.front ++ more.front;
  parts = ap (λ x. x ++ b) is.parts ∙ append_assoc is.front gathered b ∙ ap (λ x. is.front ++ x) more.parts
      ∙ sym (append_assoc is.front more.front rest);
  wrote = more.wrote ∙ ap (λ x. x ++ more.front) is.wrote ∙ append_assoc old is.front more.front;
}

-- what was gathered was written
pub gathered_written : {A E : Type 0} (result : Result A E) (old text mid gathered new : List ℕ) → IsWritten old text mid gathered
    → HasWritten result mid gathered new → HasWritten result old text new
gathered_written result old text mid gathered new is wrote =
    gathered_ended result old text mid gathered new (rest_along old text mid gathered (gathered ++ []) is (sym (append-nil gathered))) wrote

-- what was gathered was written, and then the text at once
pub gathered_at_once : {A E : Type 0} (result : Result A E) (old gathered mid text new rest : List ℕ) → mid ≡ old ++ gathered
    → rest ≡ []
    → HasWritten result mid text new → HasGathered result old (gathered ++ text) new rest
gathered_at_once (Ok value) old gathered mid text new rest first none wrote = record {
  front = gathered ++ text;
  parts = sym (append-nil (gathered ++ text)) ∙ ap (λ x. (gathered ++ text) ++ x) (sym none);
  wrote = wrote ∙ ap (λ x. x ++ text) first ∙ append_assoc old gathered text;
}
gathered_at_once (Err fault) old gathered mid text new rest first none more = record {
  front = gathered ++ more.front;
  rest = more.rest;
  parts = ap (λ x. gathered ++ x) more.parts ∙ sym (append_assoc gathered more.front more.rest);
  wrote = more.wrote ∙ ap (λ x. x ++ more.front) first ∙ append_assoc old gathered more.front;
}
