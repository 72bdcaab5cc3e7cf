-- The rows of the table of items, each in its place, and how they are cut: into rows that are seen and rows that are
-- folded, and each of these into tables.
use Prim.Native.Nat.{zero, suc}
use Rattle.std.specs.Prelude.{ℕ, ◌+◌, ◌-◌, ◌/◌, Bool, false, List, [], ◌∷◌, length, min, take, drop, Option, Some, None, if◌then◌else◌}
use Rattle.uds_difference.specs.declared.row.Row.{Row}
use Rattle.uds_difference.specs.declared.row.Row.TheVariants.{Same}
use Rattle.shown_rows.specs.Changes.{begins_change, change_length, changes}
use Rattle.shown_rows.specs.Folds.{context_behind, is_shown}
use Rattle.shown_rows.specs.Rows.{left_in, right_in}
use Rattle.trace_pair.specs.declared.folds.Fold.{Fold}
use Rattle.trace_pair.specs.declared.item_row.Begun.{Begun}
use Rattle.trace_pair.specs.declared.item_row.RowPlace.{RowPlace}

-- a row in its place: the change that begins with it, if one does, and whether it is seen where no fold is opened
pub record PlacedRow : Type 0 where
  pub place : RowPlace
  pub begins : Option Begun
  pub is_seen : Bool

-- the change that begins with a row, if one does, behind the row in front of it, where so many of all began before
abbrev pub begun : Row → ℕ → ℕ → Row → List Row → Option Begun
begun front before all row rows =
    if begins_change front row then Some (record { number = before + 1; all = all; count = change_length row rows }) else None

-- how many changes began up to a row, where so many began before it
abbrev pub changes_with : Row → ℕ → Row → ℕ
changes_with front before row = if begins_change front row then before + 1 else before

-- The first of these rows in its place. Before it stand: of all changes so many, this row in front of it, and so many
-- items of both logs; so many of the next rows are seen for a change before them.
abbrev pub placed_row : ℕ → ℕ → Row → ℕ → ℕ → ℕ → Row → List Row → PlacedRow
placed_row all before front left right still_shown row rows = record {
  place = record { kind = row; left = left; right = right };
  begins = begun front before all row rows;
  is_seen = is_shown still_shown (row ∷ rows);
}

-- these rows in their places, by what stands before them
abbrev pub placed_from : ℕ → ℕ → Row → ℕ → ℕ → ℕ → List Row → List PlacedRow
placed_from all before front left right still_shown [] = []
placed_from all before front left right still_shown (row ∷ rows) =
    placed_row all before front left right still_shown row rows
    ∷ placed_from all (changes_with front before row) row (left + left_in row) (right + right_in row) (context_behind still_shown row) rows

-- all rows of two sessions in their places
abbrev pub placed : List Row → List PlacedRow
placed rows = placed_from (length (changes rows)) 0 Same 0 0 0 rows

-- Stretches.

-- the row of two items that are the same, in a fold
abbrev pub folded_row : ℕ → ℕ → PlacedRow
folded_row left right = record { place = record { kind = Same; left = left; right = right }; begins = None; is_seen = false }

-- the rows of so many items that are the same, from these places on
abbrev pub same_rows : ℕ → ℕ → ℕ → List PlacedRow
same_rows left right zero = []
same_rows left right (suc more) = folded_row left right ∷ same_rows (left + 1) (right + 1) more

-- the rows of a fold
abbrev pub fold_rows : Fold → List PlacedRow
fold_rows fold = same_rows fold.left fold.right fold.count

-- what a reader sees: rows that stand one behind another, or a fold
pub data Stretch : Type 0 where
  shown : List PlacedRow → Stretch
  folded : Fold → Stretch

-- one more row that is seen, in front of others
abbrev pub with_seen : PlacedRow → List Stretch → List Stretch
with_seen row (shown rows ∷ later) = shown (row ∷ rows) ∷ later
with_seen row later = shown (row ∷ []) ∷ later

-- one more row that is folded, in front of others
abbrev pub with_folded : PlacedRow → List Stretch → List Stretch
with_folded row (folded fold ∷ later) = folded (record { left = row.place.left; right = row.place.right; count = suc fold.count }) ∷ later
with_folded row later = folded (record { left = row.place.left; right = row.place.right; count = 1 }) ∷ later

-- the stretches of rows: as long as they can be
abbrev pub stretches : List PlacedRow → List Stretch
stretches [] = []
stretches (row ∷ rows) = if row.is_seen then with_seen row (stretches rows) else with_folded row (stretches rows)

-- Tables.

-- a table has so many rows at most
abbrev pub full_table : ℕ
full_table = 200

-- in how many tables so many rows stand
abbrev pub table_count : ℕ → ℕ
table_count count = (count + (full_table - 1)) / full_table

-- so many tables of rows, full but for the last one
abbrev pub tables_of : ℕ → List PlacedRow → List (List PlacedRow)
tables_of zero rows = []
tables_of (suc more) rows = take full_table rows ∷ tables_of more (drop full_table rows)

-- rows in tables, full but for the last one
abbrev pub tables : List PlacedRow → List (List PlacedRow)
tables rows = tables_of (table_count (length rows)) rows

-- the first part of a fold: up to a full table
abbrev pub first_part : Fold → Fold
first_part fold = record { left = fold.left; right = fold.right; count = min full_table fold.count }

-- what stands behind its first part
abbrev pub behind_part : Fold → Fold
behind_part fold = record { left = fold.left + full_table; right = fold.right + full_table; count = fold.count - full_table }

-- so many parts of a fold, full but for the last one
abbrev pub parts_of : ℕ → Fold → List Fold
parts_of zero fold = []
parts_of (suc more) fold = first_part fold ∷ parts_of more (behind_part fold)

-- a fold in parts, full but for the last one
abbrev pub parts : Fold → List Fold
parts fold = parts_of (table_count fold.count) fold
