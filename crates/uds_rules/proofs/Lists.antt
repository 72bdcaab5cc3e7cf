-- Lists, whatever is in them.
use Rattle.std.proofs.Common.{◌≡◌, ℕ, ◌+◌, ◌<◌, List, ◌∷◌, length, drop, get_or, ap, ◌∙◌, arith, drop-cons}
use Prim.Native.Nat.{suc}

-- the list from a place on is the element there, and the list behind it
pub drops : {X : Type 0} (xs : List X) (k : ℕ) (d : X) → k < length xs → drop k xs ≡ get_or xs k d ∷ drop (k + 1) xs
drops xs k d within = (let next : suc k ≡ k + 1 = omega arith in drop-cons xs k d within ∙ ap (λ j. get_or xs k d ∷ drop j xs) next)
