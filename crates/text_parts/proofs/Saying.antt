-- A text that is said in steps.
use Rattle.std.proofs.Common.{◌≡◌, ℕ, List, [], ◌++◌, append_assoc, append-nil, subst, sym, ◌∙◌}

-- a front of the whole text was said, and this rest of it is left
pub record IsLeft {S : Type 0} (says : S → List ℕ → S → Type 0) (old : S) (rest whole : List ℕ) (new : S) : Type 0 where
  pub front : List ℕ
  pub said : says old front new
  pub parts : front ++ rest ≡ whole

module _ {S : Type 0} (says : S → List ℕ → S → Type 0) (onward : (s m t : S) (a b : List ℕ) → says s a m → says m b t → says s (a ++ b) t) where
  -- the first part of the rest is said
  pub say-more : (old now new : S) (part rest whole : List ℕ) → IsLeft says old (part ++ rest) whole now → says now part new → IsLeft says old rest whole new
  say-more old now new part rest whole left says_it = record {
    front = left.front ++ part;
    said = onward old now new left.front part left.said says_it;
    parts = append_assoc left.front part rest ∙ left.parts;
  }

  -- and that is all
  pub say-last : (old now new : S) (rest whole : List ℕ) → IsLeft says old rest whole now → says now rest new → says old whole new
  say-last old now new rest whole left says_it = subst (λ (text : List ℕ). says old text new) left.parts (onward old now new left.front rest left.said says_it)

-- nothing is said yet
pub none-said : {S : Type 0} (says : S → List ℕ → S → Type 0) (old : S) (rest whole : List ℕ) → says old [] old → rest ≡ whole → IsLeft says old rest whole old
none-said says old rest whole nothing is = record { front = []; said = nothing; parts = is }

-- nothing is left
pub said-whole : {S : Type 0} (says : S → List ℕ → S → Type 0) (old new : S) (whole : List ℕ) → IsLeft says old [] whole new → says old whole new
said-whole says old new whole left = subst (λ (text : List ℕ). says old text new) (sym (append-nil left.front) ∙ left.parts) left.said

-- the rest is what it was, by another name
pub same-rest : {S : Type 0} (says : S → List ℕ → S → Type 0) (old new : S) (rest other whole : List ℕ) → rest ≡ other → IsLeft says old rest whole new → IsLeft says old other whole new
same-rest says old new rest other whole is left = subst (λ (text : List ℕ). IsLeft says old text whole new) is left
