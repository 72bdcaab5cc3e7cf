-- The places of the items that rows have: each item of both sessions stands in one row, in order.
use Rattle.std.proofs.Common.{◌≡◌, ℕ, ◌+◌, List, [], ◌∷◌, length, ap, refl}
use Rattle.std.specs.List.{range_with_len}
use Rattle.uds_exchange.specs.Meaning.{ItemValue}
use Rattle.uds_difference.specs.Rows.{AreBeside, rows_of}
use Rattle.uds_difference.specs.declared.row.Row.{Row}
use Rattle.uds_difference.specs.declared.row.Row.TheVariants.{Same, Changed, OnlyLeft, OnlyRight}
use Rattle.uds_difference.proofs.Promises.{rows_are_beside}

-- the places of the items that rows have of the left session, where so many stand before them
abbrev pub left_places : ℕ → List Row → List ℕ
left_places i [] = []
left_places i (Same ∷ rows) = i ∷ left_places (i + 1) rows
left_places i (Changed ∷ rows) = i ∷ left_places (i + 1) rows
left_places i (OnlyLeft ∷ rows) = i ∷ left_places (i + 1) rows
left_places i (OnlyRight ∷ rows) = left_places i rows

-- and of the right one
abbrev pub right_places : ℕ → List Row → List ℕ
right_places j [] = []
right_places j (Same ∷ rows) = j ∷ right_places (j + 1) rows
right_places j (Changed ∷ rows) = j ∷ right_places (j + 1) rows
right_places j (OnlyLeft ∷ rows) = right_places j rows
right_places j (OnlyRight ∷ rows) = j ∷ right_places (j + 1) rows

lefts : (i : ℕ) (rows : List Row) (xs ys : List ItemValue) → AreBeside rows xs ys → left_places i rows ≡ range_with_len i (length xs)
lefts i [] [] [] h = refl
lefts i (Same ∷ rows) (x ∷ xs) (y ∷ ys) h = ap (λ (l : List ℕ). i ∷ l) (lefts (i + 1) rows xs ys h.1)
lefts i (Changed ∷ rows) (x ∷ xs) (y ∷ ys) h = ap (λ (l : List ℕ). i ∷ l) (lefts (i + 1) rows xs ys h.2)
lefts i (OnlyLeft ∷ rows) (x ∷ xs) ys h = ap (λ (l : List ℕ). i ∷ l) (lefts (i + 1) rows xs ys h)
lefts i (OnlyRight ∷ rows) xs (y ∷ ys) h = lefts i rows xs ys h
lefts i _ _ _ h = absurd h

rights : (j : ℕ) (rows : List Row) (xs ys : List ItemValue) → AreBeside rows xs ys → right_places j rows ≡ range_with_len j (length ys)
rights j [] [] [] h = refl
rights j (Same ∷ rows) (x ∷ xs) (y ∷ ys) h = ap (λ (l : List ℕ). j ∷ l) (rights (j + 1) rows xs ys h.1)
rights j (Changed ∷ rows) (x ∷ xs) (y ∷ ys) h = ap (λ (l : List ℕ). j ∷ l) (rights (j + 1) rows xs ys h.2)
rights j (OnlyLeft ∷ rows) (x ∷ xs) ys h = rights j rows xs ys h
rights j (OnlyRight ∷ rows) xs (y ∷ ys) h = ap (λ (l : List ℕ). j ∷ l) (rights (j + 1) rows xs ys h)
rights j _ _ _ h = absurd h

pub left-placed : (xs ys : List ItemValue) → left_places 0 (rows_of xs ys) ≡ range_with_len 0 (length xs)
left-placed xs ys = lefts 0 (rows_of xs ys) xs ys (rows_are_beside xs ys)

pub right-placed : (xs ys : List ItemValue) → right_places 0 (rows_of xs ys) ≡ range_with_len 0 (length ys)
right-placed xs ys = rights 0 (rows_of xs ys) xs ys (rows_are_beside xs ys)
