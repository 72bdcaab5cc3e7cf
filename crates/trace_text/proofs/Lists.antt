-- What is at a place of a list, and the text of a list by its elements.
use Rattle.std.proofs.Common.{◌≡◌, ℕ, ◌+◌, ◌<◌, List, [], ◌∷◌, ◌++◌, length, take, get_or, append-nil, arith, sym, ◌∙◌, None}
use Rattle.std.specs.List.{flat_map}
use Rattle.std.specs.Prelude.{slice_get}
use Rattle.std.proofs.lemmas.Grind.{flat_map-append}
use Rattle.std.proofs.lemmas.List.{take_more}
use Rattle.std.proofs.lemmas.Option.{slice_get-get_or, none-some}

-- there is an element at each place before the end
pub is_there : {X : Type 0} (xs : List X) (i : ℕ) → i < length xs → slice_get xs i ≡ None → ⊥
is_there [] i within is = absurd (omega arith)
is_there (x ∷ xs) i within is = none-some _ (sym is ∙ slice_get-get_or (x ∷ xs) i x within)

-- the texts of the first elements, and of one more
pub one_more_text : {X : Type 0} (f : X → List ℕ) (xs : List X) (k : ℕ) (d x : X) → k < length xs → x ≡ get_or xs k d
    → flat_map f (take (k + 1) xs) ≡ flat_map f (take k xs) ++ f x
one_more_text f xs k d x below is = rw (take_more xs k d below, flat_map-append, ← is) (simp append-nil)
