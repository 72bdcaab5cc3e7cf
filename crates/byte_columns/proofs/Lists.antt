-- Lists in parts, and by their places.
use Rattle.std.proofs.Common.{◌≡◌, ℕ, zero, suc, ◌+◌, ◌-◌, ◌<◌, min, List, [], ◌∷◌, ◌++◌, length, take, drop, Some, arith, ap, sym, ◌∙◌, refl}
use Rattle.std.specs.Prelude.{slice_get}
use Rattle.std.proofs.lemmas.Option.{none-some, same_Some}

module _ {X : Type 0} where
  -- what stands at a place of two lists, one behind the other
  pub get-in_front : (xs ys : List X) (at : ℕ) → at < length xs → slice_get (xs ++ ys) at ≡ slice_get xs at
  get-in_front [] ys at h = absurd (omega arith)
  get-in_front (x ∷ xs) ys zero h = refl
  get-in_front (x ∷ xs) ys (suc at) h = get-in_front xs ys at (omega arith)

  pub get-behind : (xs ys : List X) (at : ℕ) → slice_get (xs ++ ys) (length xs + at) ≡ slice_get ys at
  get-behind [] ys at = let none : length {A = X} [] + at ≡ at = omega arith in ap (slice_get ys) none
  get-behind (x ∷ xs) ys at =
      let next : length (x ∷ xs) + at ≡ suc (length xs + at) = omega arith in
      ap (slice_get (x ∷ (xs ++ ys))) next ∙ get-behind xs ys at

  -- so many of them, and what stands behind so many
  pub take-parts : (n : ℕ) (xs ys : List X) → take n (xs ++ ys) ≡ take n xs ++ take (n - length xs) ys
  take-parts zero xs ys = let none : 0 - length xs ≡ 0 = omega arith in ap (λ (m : ℕ). take m ys) (sym none)
  take-parts (suc n) [] ys = let all : suc n - length {A = X} [] ≡ suc n = omega arith in ap (λ (m : ℕ). take m ys) (sym all)
  take-parts (suc n) (x ∷ xs) ys =
      let next : suc n - length (x ∷ xs) ≡ n - length xs = omega arith in
      ap (λ (l : List X). x ∷ l) (take-parts n xs ys) ∙ ap (λ (m : ℕ). x ∷ (take n xs ++ take m ys)) (sym next)

  pub drop-parts : (n : ℕ) (xs ys : List X) → drop n (xs ++ ys) ≡ drop n xs ++ drop (n - length xs) ys
  drop-parts zero xs ys = let none : 0 - length xs ≡ 0 = omega arith in ap (λ (m : ℕ). xs ++ drop m ys) (sym none)
  drop-parts (suc n) [] ys = let all : suc n - length {A = X} [] ≡ suc n = omega arith in ap (λ (m : ℕ). drop m ys) (sym all)
  drop-parts (suc n) (x ∷ xs) ys =
      let next : suc n - length (x ∷ xs) ≡ n - length xs = omega arith in
      drop-parts n xs ys ∙ ap (λ (m : ℕ). drop n xs ++ drop m ys) (sym next)

  -- so many of so many
  pub take-within : (m n : ℕ) (xs : List X) → take m (take n xs) ≡ take (min m n) xs
  take-within zero n xs = let none : min 0 n ≡ 0 = omega arith in ap (λ (k : ℕ). take k xs) (sym none)
  take-within (suc m) zero xs = let none : min (suc m) 0 ≡ 0 = omega arith in ap (λ (k : ℕ). take k xs) (sym none)
  take-within (suc m) (suc n) [] = let some : min (suc m) (suc n) ≡ suc (min m n) = omega arith in ap (λ (k : ℕ). take {A = X} k []) (sym some)
  take-within (suc m) (suc n) (x ∷ xs) =
      let some : min (suc m) (suc n) ≡ suc (min m n) = omega arith in
      ap (λ (l : List X). x ∷ l) (take-within m n xs) ∙ ap (λ (k : ℕ). take k (x ∷ xs)) (sym some)

  -- what stands from a place on, where an element stands there
  pub drop-first : (xs : List X) (at : ℕ) (x : X) → slice_get xs at ≡ Some x → drop at xs ≡ x ∷ drop (at + 1) xs
  drop-first [] at x e = absurd (none-some x e)
  drop-first (first ∷ later) zero x e = ap (λ (y : X). y ∷ later) (same_Some first x e)
  drop-first (first ∷ later) (suc at) x e =
      let next : suc at + 1 ≡ suc (at + 1) = omega arith in
      drop-first later at x e ∙ ap (λ (n : ℕ). x ∷ drop n (first ∷ later)) (sym next)
