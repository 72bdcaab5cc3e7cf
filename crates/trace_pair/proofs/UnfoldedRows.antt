-- What of the table of items stands in no fold: the rows that are shown.
use Rattle.std.proofs.Common.{◌≡◌, ℕ, ◌+◌, ◌/◌, Bool, true, false, List, [], ◌∷◌, ◌++◌, map, length, ap, ap₂, ◌∙◌, refl}
use Rattle.std.specs.Prelude.{if◌then◌else◌}
use Rattle.std.specs.List.{flat_map}
use Rattle.uds_difference.specs.declared.row.Row.{Row}
use Rattle.uds_difference.specs.declared.row.Row.TheVariants.{Same}
use Rattle.shown_rows.specs.Changes.{changes}
use Rattle.shown_rows.specs.Folds.{context_behind, is_shown}
use Rattle.shown_rows.specs.Laws.{RowAt, shown_at}
use Rattle.shown_rows.specs.Rows.{left_in, right_in}
use Rattle.shown_rows.proofs.Promises.{shown_rows_stand_in_hunks}
use Rattle.trace_pair.specs.TableLaws.{UnfoldedRowsAreThoseOfHunks, place_of, unfolded_in, unfolded_rows}
use Rattle.trace_pair.specs.RowStretches.{PlacedRow, Stretch, shown, folded, changes_with, placed, placed_from, placed_row, stretches, with_folded, with_seen}
use Rattle.trace_pair.proofs.RowsOnce.{tables-have}

-- the rows of a stretch that is seen
abbrev seen : Stretch → List PlacedRow
seen (shown rows) = rows
seen (folded fold) = []

in-tables : (here : Stretch) → unfolded_in here ≡ seen here
in-tables (shown rows) = tables-have ((length rows + 199) / 200) rows refl
in-tables (folded fold) = refl

all-in-tables : (all : List Stretch) → flat_map unfolded_in all ≡ flat_map seen all
all-in-tables [] = refl
all-in-tables (here ∷ later) = ap₂ (λ (a b : List PlacedRow). a ++ b) (in-tables here) (all-in-tables later)

one-seen : (row : PlacedRow) (later : List Stretch) → flat_map seen (with_seen row later) ≡ row ∷ flat_map seen later
one-seen row [] = refl
one-seen row (shown rows ∷ later) = refl
one-seen row (folded fold ∷ later) = refl

one-folded : (row : PlacedRow) (later : List Stretch) → flat_map seen (with_folded row later) ≡ flat_map seen later
one-folded row [] = refl
one-folded row (shown rows ∷ later) = refl
one-folded row (folded fold ∷ later) = refl

-- one more row, which is shown or is not
one-more : (is : Bool) (row : PlacedRow) (later : List Stretch) (rows : List RowAt) → map place_of (flat_map seen later) ≡ rows
    → map place_of (flat_map seen (if is then with_seen row later else with_folded row later)) ≡ (if is then place_of row ∷ rows else rows)
one-more true row later rows rest = ap (map place_of) (one-seen row later) ∙ ap (λ (l : List RowAt). place_of row ∷ l) rest
one-more false row later rows rest = ap (map place_of) (one-folded row later) ∙ rest

module _ (all : ℕ) where
  are-shown : (before : ℕ) (front : Row) (left right more : ℕ) (rows : List Row)
      → map place_of (flat_map seen (stretches (placed_from all before front left right more rows))) ≡ shown_at more left right rows
  are-shown before front left right more [] = refl
  are-shown before front left right more (row ∷ rows) =
      one-more (is_shown more (row ∷ rows)) (placed_row all before front left right more row rows)
      (stretches (placed_from all (changes_with front before row) row (left + left_in row) (right + right_in row) (context_behind more row) rows))
      (shown_at (context_behind more row) (left + left_in row) (right + right_in row) rows)
      (are-shown (changes_with front before row) row (left + left_in row) (right + right_in row) (context_behind more row) rows)

pub unfolded_rows_are_those_of_hunks : UnfoldedRowsAreThoseOfHunks
unfolded_rows_are_those_of_hunks rows =
    ap (map place_of) (all-in-tables (stretches (placed rows))) ∙ are-shown (length (changes rows)) 0 Same 0 0 0 rows ∙ shown_rows_stand_in_hunks rows
