-- Lists: the parts of one, whether it is empty, and lists of lists of which the first one grows.
use Rattle.std.proofs.Common.{◌≡◌, ℕ, ◌<◌, Bool, true, false, List, [], ◌∷◌, ◌++◌, length, append_assoc, refl, sym, ap, ◌∙◌, arith}
use Rattle.std.specs.Prelude.{◌==◌}
use Rattle.std.specs.List.{onto_first}
use Rattle.std.proofs.lemmas.Bool.{eqb-true}
use Rattle.std.proofs.lemmas.List.{nil_from_length}

-- ---- parts

-- each part is another list
pub parts_are : {X : Type 0} {whole front rest a b : List X} → whole ≡ front ++ rest → front ≡ a → rest ≡ b → whole ≡ a ++ b
parts_are parts e f = cc

-- more follows the whole
pub parts_more : {X : Type 0} {whole : List X} (front rest : List X) → whole ≡ front ++ rest → (more : List X) → whole ++ more ≡ front ++ (rest ++ more)
parts_more {X} front rest parts more = ap (λ (z : List X). z ++ more) parts ∙ append_assoc front rest more

-- the second part is cut again
pub parts_again : {X : Type 0} {whole rest : List X} (front middle back : List X) → whole ≡ front ++ rest → rest ≡ middle ++ back
    → whole ≡ (front ++ middle) ++ back
parts_again {X} front middle back parts e = parts ∙ ap (λ (z : List X). front ++ z) e ∙ sym (append_assoc front middle back)

-- ---- whether a list is empty

pub nil_of : (xs : List ℕ) (is_empty : Bool) → is_empty ≡ (length xs == 0) → is_empty ≡ true → xs ≡ []
nil_of xs is_empty tells empty = nil_from_length xs (eqb-true (length xs) 0 (sym tells ∙ empty))

pub nonempty : (xs : List ℕ) (is_empty : Bool) → is_empty ≡ (length xs == 0) → is_empty ≡ false → 0 < length xs
nonempty [] is_empty tells some = absurd cc
nonempty (x ∷ xs) is_empty tells some = omega arith

-- ---- the first of several lists grows

pub onto_first-append : {X : Type 0} (x : X) (parts more : List (List X)) → 0 < length parts → onto_first x (parts ++ more) ≡ onto_first x parts ++ more
onto_first-append x [] more some = absurd (omega arith)
onto_first-append x (part ∷ parts) more some = refl

pub length-onto_first : {X : Type 0} (x : X) (parts : List (List X)) → 0 < length (onto_first x parts)
length-onto_first x [] = omega arith
length-onto_first x (part ∷ parts) = omega arith
