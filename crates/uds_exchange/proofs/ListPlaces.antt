-- What stands at a place of a list.
use Prim.Native.Nat.{zero, suc}
use Rattle.std.proofs.Common.{◌≡◌, ℕ, List, [], ◌∷◌, ◌++◌, length, Some, refl}
use Rattle.std.specs.Prelude.{slice_get, slice_set}

-- in a longer list
pub at_front : {X : Type 0} (xs ys : List X) (place : ℕ) (x : X) → slice_get xs place ≡ Some x → slice_get (xs ++ ys) place ≡ Some x
at_front [] ys place x is = cc
at_front (y ∷ xs) ys zero x is = is
at_front (y ∷ xs) ys (suc place) x is = at_front xs ys place x is

-- behind a list
pub at-behind : {X : Type 0} (xs ys : List X) (x : X) → slice_get (xs ++ x ∷ ys) (length xs) ≡ Some x
at-behind [] ys x = refl
at-behind (y ∷ xs) ys x = at-behind xs ys x

-- where it was put
pub set-there : {X : Type 0} (xs : List X) (place : ℕ) (was x : X) → slice_get xs place ≡ Some was → slice_get (slice_set xs place x) place ≡ Some x
set-there [] place was x is = cc
set-there (y ∷ xs) zero was x is = refl
set-there (y ∷ xs) (suc place) was x is = set-there xs place was x is
