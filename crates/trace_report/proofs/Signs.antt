-- Lemmas on the signs of files.
use Rattle.std.proofs.Common.{◌≡◌, refl, Bool, List, [], ◌∷◌, map}
use Rattle.std.specs.List.{list_any}

-- an element of the values of a function passes where the value of an element does
pub list_any_map : {A B : Type 0} (test : B → Bool) (f : A → B) → (xs : List A) → list_any test (map f xs) ≡ list_any (λ x. test (f x)) xs
list_any_map test f [] = refl
list_any_map test f (x ∷ xs) = rw (list_any_map test f xs) refl
