-- The changes have each row that is one, once, in order.
use Rattle.std.proofs.Common.{◌≡◌, ℕ, ◌+◌, List, [], ◌∷◌, ◌++◌, replicate, ap, sym, refl}
use Rattle.std.specs.List.{filter, flat_map}
use Rattle.uds_difference.specs.declared.row.Row.{Row}
use Rattle.uds_difference.specs.declared.row.Row.TheVariants.{Same, Changed, OnlyLeft, OnlyRight}
use Rattle.shown_rows.specs.Changes.{changes_from, run_length}
use Rattle.shown_rows.specs.Laws.{ChangesHaveEachRow, rows_of_change}
use Rattle.shown_rows.specs.Rows.{is_change}

-- the rows at the head that belong to a change which began before them
abbrev pub pending : Row → List Row → List Row
pending Same rows = []
pending Changed rows = []
pending OnlyLeft rows = replicate (run_length OnlyLeft rows) OnlyLeft
pending OnlyRight rows = replicate (run_length OnlyRight rows) OnlyRight

-- the rows of the changes that begin with one of these
abbrev pub begun : Row → ℕ → ℕ → List Row → List Row
begun front i j rows = flat_map rows_of_change (changes_from front i j rows)

each : (front : Row) (i j : ℕ) (rows : List Row) → filter is_change rows ≡ pending front rows ++ begun front i j rows
each Same i j [] = refl
each Changed i j [] = refl
each OnlyLeft i j [] = refl
each OnlyRight i j [] = refl
each Same i j (Same ∷ rows) = each Same (i + 1) (j + 1) rows
each Changed i j (Same ∷ rows) = each Same (i + 1) (j + 1) rows
each OnlyLeft i j (Same ∷ rows) = each Same (i + 1) (j + 1) rows
each OnlyRight i j (Same ∷ rows) = each Same (i + 1) (j + 1) rows
each Same i j (Changed ∷ rows) = ap (λ (l : List Row). Changed ∷ l) (each Changed (i + 1) (j + 1) rows)
each Changed i j (Changed ∷ rows) = ap (λ (l : List Row). Changed ∷ l) (each Changed (i + 1) (j + 1) rows)
each OnlyLeft i j (Changed ∷ rows) = ap (λ (l : List Row). Changed ∷ l) (each Changed (i + 1) (j + 1) rows)
each OnlyRight i j (Changed ∷ rows) = ap (λ (l : List Row). Changed ∷ l) (each Changed (i + 1) (j + 1) rows)
each Same i j (OnlyLeft ∷ rows) = ap (λ (l : List Row). OnlyLeft ∷ l) (each OnlyLeft (i + 1) (j + 0) rows)
each Changed i j (OnlyLeft ∷ rows) = ap (λ (l : List Row). OnlyLeft ∷ l) (each OnlyLeft (i + 1) (j + 0) rows)
each OnlyLeft i j (OnlyLeft ∷ rows) = ap (λ (l : List Row). OnlyLeft ∷ l) (each OnlyLeft (i + 1) (j + 0) rows)
each OnlyRight i j (OnlyLeft ∷ rows) = ap (λ (l : List Row). OnlyLeft ∷ l) (each OnlyLeft (i + 1) (j + 0) rows)
each Same i j (OnlyRight ∷ rows) = ap (λ (l : List Row). OnlyRight ∷ l) (each OnlyRight (i + 0) (j + 1) rows)
each Changed i j (OnlyRight ∷ rows) = ap (λ (l : List Row). OnlyRight ∷ l) (each OnlyRight (i + 0) (j + 1) rows)
each OnlyLeft i j (OnlyRight ∷ rows) = ap (λ (l : List Row). OnlyRight ∷ l) (each OnlyRight (i + 0) (j + 1) rows)
each OnlyRight i j (OnlyRight ∷ rows) = ap (λ (l : List Row). OnlyRight ∷ l) (each OnlyRight (i + 0) (j + 1) rows)

pub changes_have_each_row : ChangesHaveEachRow
changes_have_each_row rows = sym (each Same 0 0 rows)
