-- What a list has from one place up to another.
use Rattle.std.proofs.Common.{◌≡◌, ℕ, zero, suc, ◌+◌, ◌-◌, ◌≤◌, ◌<◌, List, [], ◌∷◌, ◌++◌, length, take, drop, Some, None, arith, ap, sym, ◌∙◌}
use Rattle.std.specs.Prelude.{slice_get}
use Rattle.std.proofs.lemmas.List.{drop-drop, drop-take, drop_all, take-append-drop, take-take, take_all}
use Rattle.std.proofs.lemmas.Option.{none-some, same_Some}

module _ {X : Type 0} where
  -- from a place on, where an element stands there
  pub drop-first : (xs : List X) (at : ℕ) (x : X) → slice_get xs at ≡ Some x → drop at xs ≡ x ∷ drop (at + 1) xs
  drop-first [] at x e = absurd (none-some x e)
  drop-first (first ∷ later) zero x e = ap (λ (y : X). y ∷ later) (same_Some first x e)
  drop-first (first ∷ later) (suc at) x e =
      let next : suc at + 1 ≡ suc (at + 1) = omega arith in
      drop-first later at x e ∙ ap (λ (n : ℕ). x ∷ drop n (first ∷ later)) (sym next)

  pub cut-first : (xs : List X) (at to : ℕ) (x : X) → at < to → slice_get xs at ≡ Some x
      → take (to - at) (drop at xs) ≡ x ∷ take (to - (at + 1)) (drop (at + 1) xs)
  cut-first xs at to x below there =
      let next : to - at ≡ suc (to - (at + 1)) = omega arith in
      ap (λ (n : ℕ). take n (drop at xs)) next ∙ ap (λ (l : List X). take (suc (to - (at + 1))) l) (drop-first xs at x there)

  -- up to no later place
  pub cut-none : (xs : List X) (at to : ℕ) → to ≤ at → take (to - at) (drop at xs) ≡ []
  cut-none xs at to over = let none : to - at ≡ 0 = omega arith in ap (λ (n : ℕ). take n (drop at xs)) none

  -- from its end on
  pub past-end : (xs : List X) (at : ℕ) → slice_get xs at ≡ None → length xs ≤ at
  past-end [] at e = omega arith
  past-end (x ∷ xs) zero e = absurd (none-some x (sym e))
  past-end (x ∷ xs) (suc at) e = omega (arith, past-end xs at e)

  take-nothing : (n : ℕ) (xs : List X) → xs ≡ [] → take n xs ≡ []
  take-nothing n xs none = ap (take n) none ∙ take_all n [] (omega arith)

  pub cut-past : (xs : List X) (at to : ℕ) → length xs ≤ at → take (to - at) (drop at xs) ≡ []
  cut-past xs at to past = take-nothing (to - at) (drop at xs) (drop_all at xs past)

  -- two pieces that stand one behind the other
  pub cut-joined : (xs : List X) (a b c : ℕ) → a ≤ b → b ≤ c
      → take (c - a) (drop a xs) ≡ take (b - a) (drop a xs) ++ take (c - b) (drop b xs)
  cut-joined xs a b c up further =
      let whole : c - a ≡ (b - a) + (c - b) = omega arith in
      let place : a + (b - a) ≡ b = omega arith in
      ap (λ (n : ℕ). take n (drop a xs)) whole
      ∙ sym (take-append-drop (b - a) (take ((b - a) + (c - b)) (drop a xs)))
      ∙ ap (λ (l : List X). l ++ drop (b - a) (take ((b - a) + (c - b)) (drop a xs))) (take-take (b - a) ((b - a) + (c - b)) (drop a xs) (omega arith))
      ∙ ap (λ (l : List X). take (b - a) (drop a xs) ++ l)
      (drop-take (b - a) (c - b) (drop a xs) ∙ ap (take (c - b)) (drop-drop (b - a) a xs ∙ ap (λ (n : ℕ). drop n xs) place))
