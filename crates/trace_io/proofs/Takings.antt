-- What a target took, call after call.
use Rattle.std.proofs.Common.{◌≡◌, ℕ, ◌-◌, List, [], ◌++◌, length, Option, ap, sym, take, drop, ◌∙◌, append-nil, append_assoc}
use Rattle.std.proofs.KnownBytes.{Appends-nil, Appends-trans}
use Rattle.std.proofs.lemmas.List.{take-append-drop, take_rest}
use Rattle.trace_io.specs.Stream.{Took}
use Rattle.trace_io.specs.Written.{IsWritten}

-- nothing
pub took_no_byte : (old : List ℕ) (contents : Option (List ℕ)) → Took old old contents contents
took_no_byte old contents = record { bytes = []; grown = sym (append-nil old); held = Appends-nil contents }

-- some bytes, and then more
pub took_more : {old mid new : List ℕ} {told told_then told_now : Option (List ℕ)} → Took old mid told told_then → Took mid new told_then told_now
    → Took old new told told_now
took_more {old = old} {told = told} {told_then = told_then} {told_now = told_now} first then = record {
  bytes = first.bytes ++ then.bytes;
  grown = then.grown ∙ ap (λ x. x ++ then.bytes) first.grown ∙ append_assoc old first.bytes then.bytes;
  held = Appends-trans told told_then told_now first.bytes then.bytes first.held then.held;
}

-- the first n bytes of the rest of a text were written
pub written_more : {start mid new : List ℕ} (text rest : List ℕ) (n : ℕ) → IsWritten start text mid rest → new ≡ mid ++ take n rest
    → IsWritten start text new (take (length rest - n) (drop n rest))
written_more {start = start} text rest n is more = record {
  front = is.front ++ take n rest;
  parts = is.parts ∙ ap (λ x. is.front ++ x) (sym (take-append-drop n rest) ∙ ap (λ x. take n rest ++ x) (sym (take_rest rest n)))
      ∙ sym (append_assoc is.front (take n rest) (take (length rest - n) (drop n rest)));
  wrote = more ∙ ap (λ x. x ++ take n rest) is.wrote ∙ append_assoc start is.front (take n rest);
}
