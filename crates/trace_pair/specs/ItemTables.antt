-- The table of items: each row of both sessions once. What is folded is one line, with its rows behind it.
use Rattle.std.specs.Prelude.{ℕ, ◌+◌, ◌-◌, ◌==◌, not, ◌&&◌, List, [], ◌∷◌, ◌++◌, codes, length, nat_le, nat_lt, if◌then◌else◌}
use Rattle.std.specs.Fmt.{decimal}
use Rattle.std.specs.List.{flat_map}
use Rattle.uds_difference.specs.declared.row.Row.{Row}
use Rattle.uds_difference.specs.declared.row.Row.TheVariants.{Same}
use Rattle.shown_rows.specs.Rows.{count_of, differs}
use Rattle.trace_report.specs.Items.{items_in}
use Rattle.trace_report.specs.Session.{SessionValue}
use Rattle.trace_pair.specs.declared.folds.Fold.{Fold}
use Rattle.pair_words.specs.declared.log.PairLog.{PairLog}
use Rattle.pair_words.specs.declared.log.PairLog.TheVariants.{A, B}
use Rattle.trace_pair.specs.ChangeWords.{items_range}
use Rattle.trace_pair.specs.ItemRows.{row_text}
use Rattle.pair_words.specs.Logs.{letter}
use Rattle.trace_pair.specs.Losses.{losses_from, losses_of, losses_text}
use Rattle.trace_pair.specs.RowStretches.{PlacedRow, Stretch, shown, folded, fold_rows, full_table, parts, placed, stretches, tables}
use Rattle.trace_pair.specs.Verdict.{items_word}
use Rattle.trace_pair.specs.Widths.{items_class}

-- a row in its place
abbrev pub placed_text : SessionValue → SessionValue → PlacedRow → List ℕ
placed_text one other row = row_text one other row.place row.begins

-- rows, one behind another
abbrev pub rows_text : SessionValue → SessionValue → List PlacedRow → List ℕ
rows_text one other rows = flat_map (placed_text one other) rows

-- the start of a table, up to its first row
abbrev pub table_start : List ℕ
table_start = codes "<table class=\"pair\">\n<thead><tr><th scope=\"col\">A<th scope=\"col\">B<th scope=\"col\">Item</thead>\n<tbody>\n"

-- Folds.

-- where the items of a fold stand in both logs
abbrev pub both_ranges : Fold → List ℕ
both_ranges fold = items_range A fold.left fold.count ++ codes ", " ++ items_range B fold.right fold.count

-- how much is missing of the folded items of a log, where something is
abbrev pub fold_losses : PairLog → ℕ → List ℕ
fold_losses log count = if count == 0 then [] else codes " <em class=\"loss\">" ++ decimal count ++ codes " dropped, ended or unfinished in " ++ letter log ++ codes "</em>"

-- the line of a fold: how many items, which, and what is missing of them
abbrev pub fold_line : SessionValue → SessionValue → Fold → List ℕ
fold_line one other fold =
    codes "<b>" ++ items_word fold.count ++ codes ", the same</b> <i>" ++ both_ranges fold ++ codes "</i>"
    ++ fold_losses A (losses_from one.rows fold.left fold.count) ++ fold_losses B (losses_from other.rows fold.right fold.count)

-- a part of a long fold
abbrev pub fold_part : SessionValue → SessionValue → Fold → List ℕ
fold_part one other fold =
    codes "<details class=\"b\">\n<summary>" ++ both_ranges fold ++ codes "</summary>\n" ++ table_start ++ rows_text one other (fold_rows fold)
    ++ codes "</table>\n</details>\n"

-- a fold: in one table, or in parts
abbrev pub fold_text : SessionValue → SessionValue → Fold → List ℕ
fold_text one other fold =
    if nat_le fold.count full_table
    then codes "<details class=\"b same\">\n<summary>" ++ fold_line one other fold ++ codes "</summary>\n" ++ table_start
    ++ rows_text one other (fold_rows fold) ++ codes "</table>\n</details>\n"
    else codes "<details class=\"b same long\">\n<summary>" ++ fold_line one other fold ++ codes "</summary>\n"
    ++ flat_map (fold_part one other) (parts fold) ++ codes "</details>\n"

-- What is seen.

-- so many blocks, the first ones, are open
abbrev pub open_blocks : ℕ
open_blocks = 4

-- the start of a block, which is a table that folds, by how many stand before it, and by how many items of both
abbrev pub block_start : ℕ → ℕ → ℕ → List ℕ
block_start blocks left right =
    codes "<details class=\"b\"" ++ (if nat_lt blocks open_blocks then codes " open" else []) ++ codes ">\n<summary>From A&#160;"
    ++ decimal (left + 1) ++ codes ", B&#160;" ++ decimal (right + 1) ++ codes "</summary>\n" ++ table_start

-- a block of rows, if there are any
abbrev pub block_text : SessionValue → SessionValue → ℕ → List PlacedRow → List ℕ
block_text one other blocks [] = []
block_text one other blocks (row ∷ rows) =
    block_start blocks row.place.left row.place.right ++ rows_text one other (row ∷ rows) ++ codes "</table>\n</details>\n"

-- a block for each of these tables
abbrev pub blocks_text : SessionValue → SessionValue → ℕ → List (List PlacedRow) → List ℕ
blocks_text one other blocks [] = []
blocks_text one other blocks (table ∷ later) = block_text one other blocks table ++ blocks_text one other (blocks + 1) later

-- tables of rows that are seen: the first one, and a block for each behind it
abbrev pub tables_text : SessionValue → SessionValue → ℕ → List (List PlacedRow) → List ℕ
tables_text one other blocks [] = []
tables_text one other blocks (table ∷ later) = table_start ++ rows_text one other table ++ codes "</table>\n" ++ blocks_text one other blocks later

-- All rows.

-- how many blocks a stretch has
abbrev pub block_count : Stretch → ℕ
block_count (shown rows) = length (tables rows) - 1
block_count (folded fold) = 0

-- a stretch, before which so many blocks stand
abbrev pub stretch_text : SessionValue → SessionValue → ℕ → Stretch → List ℕ
stretch_text one other blocks (shown rows) = tables_text one other blocks (tables rows)
stretch_text one other blocks (folded fold) = fold_text one other fold

-- stretches, before which so many blocks stand
abbrev pub stretches_text : SessionValue → SessionValue → ℕ → List Stretch → List ℕ
stretches_text one other blocks [] = []
stretches_text one other blocks (here ∷ later) = stretch_text one other blocks here ++ stretches_text one other (blocks + block_count here) later

-- the box that leaves the differences alone, where something differs and something is the same
abbrev pub filter_text : List Row → List ℕ
filter_text rows =
    if differs rows && not (count_of Same rows == 0)
    then codes "<p class=\"filter\"><input type=\"checkbox\" id=\"apart\"> <label for=\"apart\">Show only differences</label></p>\n" else []

-- what is missing of a log without an item: no row of the table has it, so it stands above that
abbrev pub losses_of_no_item : PairLog → SessionValue → List ℕ
losses_of_no_item log session = if length (items_in session.rows) == 0 then losses_text log (losses_of session.rows 0) else []

-- all items of two sessions with these rows
abbrev pub items_text : SessionValue → SessionValue → List Row → List ℕ
items_text one other rows =
    codes "<section id=\"items\" class=\"" ++ items_class one other ++ codes "\">\n<h2>Items</h2>\n" ++ filter_text rows
    ++ losses_of_no_item A one ++ losses_of_no_item B other
    ++ (if length rows == 0 then codes "<p>None.</p>\n" else stretches_text one other 0 (stretches (placed rows))) ++ codes "</section>\n"
