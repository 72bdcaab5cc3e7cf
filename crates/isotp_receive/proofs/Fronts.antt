-- Fronts of lists of numbers.
use Rattle.std.proofs.Common.{◌≡◌, ℕ, ◌+◌, ◌-◌, ◌<◌, ◌≤◌, List, ◌++◌, length, take, get_or, sym, ◌∙◌, ap, arith, inl, inr, ext_get_or}
use Rattle.std.proofs.Common.{get_or-take, length-append, length-take}
use Rattle.std.proofs.Math.Seq.{take-append-add}
use Rattle.std.proofs.lemmas.Bool.{cases_lt}
use Rattle.std.proofs.lemmas.List.{get_or_append_left, get_or-append_right}

-- xs, and as many of ys as make n in all
pub take_over : (xs ys : List ℕ) (n : ℕ) → length xs ≤ n → xs ++ take (n - length xs) ys ≡ take n (xs ++ ys)
take_over xs ys n h =
    let e : length xs + (n - length xs) ≡ n = omega arith in
    sym (take-append-add xs ys (n - length xs)) ∙ ap (λ k. take k (xs ++ ys)) e

-- the first a numbers of m, and numbers that go on with it
pub front-goes-on : (m xs ys : List ℕ) (a : ℕ) → xs ≡ take a m → a ≤ length m
    → ((b : ℕ) → b < length ys → a + b < length m → get_or m (a + b) 0 ≡ get_or ys b 0) → take (length m) (xs ++ ys) ≡ take (a + length ys) m
front-goes-on m xs ys a e h each =
    ext_get_or 0 _ _ (simp (length-take, length-append) (omega (arith, size))) (λ i below.
    let i_in : i < length m = omega (arith, length-take (length m) (xs ++ ys)) in
    let i_sum : i < a + length ys = omega (arith, size, length-take (length m) (xs ++ ys), length-append xs ys) in
    get_or-take (length m) (xs ++ ys) i 0 i_in ∙ at_index i i_in i_sum ∙ sym (get_or-take (a + length ys) m i 0 i_sum)) where
      size : length xs ≡ a
      size = ap length e ∙ omega (arith, length-take a m)

      at_index : (i : ℕ) → i < length m → i < a + length ys → get_or (xs ++ ys) i 0 ≡ get_or m i 0
      at_index i i_in i_sum = elim (cases_lt i a) [
        | inl below ↦ get_or_append_left xs ys 0 i (omega (arith, size)) ∙ ap (λ l. get_or l i 0) e ∙ get_or-take a m i 0 below
        | inr behind ↦ (let back : a + (i - a) ≡ i = omega arith in
            get_or-append_right xs ys a i 0 size behind ∙ sym (each (i - a) (omega (arith, size)) (omega arith)) ∙ ap (λ j. get_or m j 0) back)
      ]
