-- What holds of the table of items: which rows and items stand in it, and which of them in no fold.
use Rattle.std.specs.Prelude.{◌≡◌, ℕ, Bool, List, [], ◌∷◌, map, length, if◌then◌else◌}
use Rattle.std.specs.List.{flat_map, range_with_len}
use Rattle.uds_exchange.specs.Meaning.{ItemValue}
use Rattle.uds_difference.specs.Rows.{rows_of}
use Rattle.uds_difference.specs.declared.row.Row.{Row}
use Rattle.shown_rows.specs.Hunks.{hunks}
use Rattle.shown_rows.specs.Laws.{RowAt, places_of_hunk, row_at}
use Rattle.pair_words.specs.declared.log.PairLog.{PairLog}
use Rattle.pair_words.specs.declared.log.PairLog.TheVariants.{A, B}
use Rattle.trace_pair.specs.ItemRows.{place_in}
use Rattle.pair_words.specs.Logs.{has_item}
use Rattle.trace_pair.specs.RowStretches.{PlacedRow, Stretch, shown, folded, fold_rows, parts, placed, stretches, tables}

-- the rows of a table
abbrev pub rows_of_table : List PlacedRow → List PlacedRow
rows_of_table rows = rows

-- the rows of a stretch, as its tables have them
abbrev pub rows_in : Stretch → List PlacedRow
rows_in (shown rows) = flat_map rows_of_table (tables rows)
rows_in (folded fold) = flat_map fold_rows (parts fold)

-- the rows of the table of items, seen or folded, where sessions have these
abbrev pub table_rows : List Row → List PlacedRow
table_rows rows = flat_map rows_in (stretches (placed rows))

-- what kind of row it is
abbrev pub kind_of : PlacedRow → Row
kind_of row = row.place.kind

-- the table of items has each row once, in order, whether it is seen or folded
abbrev pub EachRowStandsOnce : Type 0
EachRowStandsOnce = (rows : List Row) → (table_rows rows ≡ placed rows) × (map kind_of (table_rows rows) ≡ rows)

-- the rows of a stretch that stand in no fold
abbrev pub unfolded_in : Stretch → List PlacedRow
unfolded_in (shown rows) = flat_map rows_of_table (tables rows)
unfolded_in (folded fold) = []

-- the rows of the table of items that stand in no fold
abbrev pub unfolded_rows : List Row → List PlacedRow
unfolded_rows rows = flat_map unfolded_in (stretches (placed rows))

-- a row, and how many items of both sessions stand before it
abbrev pub place_of : PlacedRow → RowAt
place_of row = row_at row.place.kind row.place.left row.place.right

-- what a page shows unfolded is what the hunks of a text have, each row at its place
abbrev pub UnfoldedRowsAreThoseOfHunks : Type 0
UnfoldedRowsAreThoseOfHunks = (rows : List Row) → map place_of (unfolded_rows rows) ≡ flat_map places_of_hunk (hunks rows)

-- the place of an item, if a row has it
abbrev pub place_if : Bool → ℕ → List ℕ
place_if has place = if has then place ∷ [] else []

-- the place of the item that a row has of a log, if it has one
abbrev pub item_place : PairLog → PlacedRow → List ℕ
item_place log row = place_if (has_item log row.place.kind) (place_in log row.place)

-- the table of items has each item of both sessions once, in order
abbrev pub EachItemStandsOnce : Type 0
EachItemStandsOnce = (xs ys : List ItemValue)
    → (flat_map (item_place A) (table_rows (rows_of xs ys)) ≡ range_with_len 0 (length xs))
    × (flat_map (item_place B) (table_rows (rows_of xs ys)) ≡ range_with_len 0 (length ys))
