-- What is said to a line that is made in memory, text after text.
use Rattle.std.proofs.Common.{◌≡◌, ◌∙◌, ◌⊎◌, ◌+◌, ◌≤◌, ℕ, Bool, true, false, List, [], ◌++◌, length, inl, inr, ap, sym, append_assoc, append-nil, length-append, arith}

-- It took a text behind what it had, unless memory was refused, then or before. For no text none is wanted.
pub record TookUnlessRefused (was_refused : Bool) (old text : List ℕ) (is_refused : Bool) (new : List ℕ) : Type 0 where
  pub took : is_refused ≡ false → (was_refused ≡ false) × (new ≡ old ++ text)
  pub wanted : is_refused ≡ true → (was_refused ≡ true) ⊎ (1 ≤ length text)

-- no text
pub took_nothing_yet : (is_refused : Bool) (line : List ℕ) → TookUnlessRefused is_refused line [] is_refused line
took_nothing_yet is_refused line = record { took = λ kept. (kept, sym (append-nil line)); wanted = λ refused. inl refused }

-- and one after another
pub took_onward_unless_refused : (was_refused is_refused then_refused : Bool) (old mid new a b : List ℕ) → TookUnlessRefused was_refused old a is_refused mid
    → TookUnlessRefused is_refused mid b then_refused new → TookUnlessRefused was_refused old (a ++ b) then_refused new
took_onward_unless_refused was_refused is_refused then_refused old mid new a b one two =
    let both = length-append a b in
    record {
      took = λ kept.
          (let second = two.took kept in
          let first = one.took second.0 in
          (first.0, second.1 ∙ ap (λ line. line ++ b) first.1 ∙ append_assoc old a b));
      wanted = λ refused.
          elim (two.wanted refused) [
            | inl before ↦ elim (one.wanted before) [
              | inl earlier ↦ inl earlier
              | inr some ↦ inr (omega (arith, both, some))
            ]
            | inr some ↦ inr (omega (arith, both, some))
          ];
    }
