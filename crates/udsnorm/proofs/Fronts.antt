-- The front of bytes, as it grows.
use Rattle.std.proofs.Common.{◌≡◌, ◌∙◌, ◌+◌, ◌-◌, ◌<◌, ◌≤◌, ◌⊎◌, inl, inr, ℕ, List, ◌++◌, length, take, ap, sym, arith}
use Rattle.std.specs.Prelude.{min}
use Rattle.std.proofs.lemmas.Bool.{cases_lt}
use Rattle.std.proofs.lemmas.List.{length-take-le, take-append-le, take-take, take_all, take_min}
use Rattle.std.proofs.Math.Seq.{take-append-add}

-- bytes and as many of others as there is room for are the front of both
pub front_taken : (most : ℕ) (xs ys : List ℕ) → length xs ≤ most → xs ++ take (min (most - length xs) (length ys)) ys ≡ take most (xs ++ ys)
front_taken most xs ys fits =
    let all : length xs + (most - length xs) ≡ most = omega (arith, fits) in
    ap (λ rest. xs ++ rest) (take_min (most - length xs) ys) ∙ sym (take-append-add xs ys (most - length xs)) ∙ ap (λ n. take n (xs ++ ys)) all

-- bytes behind a front are in the front of all as far as there is room
behind_front : (most : ℕ) (xs ys : List ℕ) → (most < length xs) ⊎ (length xs ≤ most) → take most (take most xs ++ ys) ≡ take most (xs ++ ys)
behind_front most xs ys (inl long) =
    let within : most ≤ length xs = omega (arith, long) in
    let whole : most ≤ length (take most xs) = omega (arith, length-take-le most xs within) in
    take-append-le most (take most xs) ys whole ∙ take-take most most xs (omega arith) ∙ sym (take-append-le most xs ys within)
behind_front most xs ys (inr short) = ap (λ front. take most (front ++ ys)) (take_all most xs short)

-- so the front of all is kept, where the front of what came before was
pub front_grows : (most : ℕ) (xs ys zs front kept : List ℕ) → front ≡ take most xs → kept ≡ take most (front ++ ys) → zs ≡ xs ++ ys → kept ≡ take most zs
front_grows most xs ys zs front kept before is all =
    is ∙ ap (λ f. take most (f ++ ys)) before ∙ behind_front most xs ys (cases_lt most (length xs)) ∙ ap (λ bytes. take most bytes) (sym all)
