-- Devices of proof: what stands before a row of the table of items, where its rows are written one after another.
use Rattle.std.specs.Prelude.{ℕ, ◌+◌, ◌-◌, ◌<◌, ◌^◌, Bool, false, List, [], ◌∷◌, ◌++◌, codes, nat_le, nat_lt, if◌then◌else◌}
use Rattle.uds_difference.specs.declared.row.Row.{Row}
use Rattle.uds_difference.specs.declared.row.Row.TheVariants.{Same}
use Rattle.shown_rows.specs.Folds.{context_behind, is_shown}
use Rattle.shown_rows.specs.Folds.{folded as folded_in}
use Rattle.shown_rows.specs.Rows.{left_in, right_in}
use Rattle.trace_report.specs.Session.{SessionValue}
use Rattle.trace_pair.specs.declared.folds.Fold.{Fold}
use Rattle.trace_pair.specs.declared.standing.Standing.{Standing}
use Rattle.trace_pair.specs.declared.standing.Table.{Table}
use Rattle.trace_pair.specs.declared.standing.Table.TheVariants.{Closed, Open, Block}
use Rattle.trace_pair.specs.ItemRows.{row_text}
use Rattle.trace_pair.specs.ItemTables.{block_start, fold_text, table_start}
use Rattle.trace_pair.specs.RowStretches.{begun, changes_with, full_table}

-- Tables.

-- the end of the table that stands, if one does
abbrev pub table_end : Table → List ℕ
table_end Closed = []
table_end (Open rows) = codes "</table>\n"
table_end (Block rows) = codes "</table>\n</details>\n"

-- what begins before a row that is seen: a table where none stands, a block where one is full
abbrev pub opening : Table → ℕ → ℕ → ℕ → List ℕ
opening Closed blocks left right = table_start
opening (Open rows) blocks left right = if nat_lt rows full_table then [] else table_end (Open rows) ++ block_start blocks left right
opening (Block rows) blocks left right = if nat_lt rows full_table then [] else table_end (Block rows) ++ block_start blocks left right

-- the table that stands behind a row that is seen, by the one before it
abbrev pub table_behind : Table → Table
table_behind Closed = Open 1
table_behind (Open rows) = if nat_lt rows full_table then Open (rows + 1) else Block 1
table_behind (Block rows) = if nat_lt rows full_table then Block (rows + 1) else Block 1

-- how many blocks began up to a row that is seen, by the table before it and how many began then
abbrev pub blocks_behind : Table → ℕ → ℕ
blocks_behind Closed blocks = blocks
blocks_behind (Open rows) blocks = if nat_lt rows full_table then blocks else blocks + 1
blocks_behind (Block rows) blocks = if nat_lt rows full_table then blocks else blocks + 1

-- a table is full: another one begins before the next row that is seen
abbrev pub is_full : Table → Bool
is_full Closed = false
is_full (Open rows) = nat_le full_table rows
is_full (Block rows) = nat_le full_table rows

-- Standings.

-- what stands before a row fits a memory
pub record IsSmall (at : Standing) : Type 0 where
  pub left : at.left < 2 ^ 63
  pub right : at.right < 2 ^ 63
  pub changes : at.changes < 2 ^ 63
  pub blocks : at.blocks < 2 ^ 63

-- what stands behind so many rows more fits a memory
pub record IsRoomy (at : Standing) (more : ℕ) : Type 0 where
  pub left : at.left + more < 2 ^ 63
  pub right : at.right + more < 2 ^ 63
  pub changes : at.changes + more < 2 ^ 63
  pub blocks : at.blocks + more < 2 ^ 63

-- what stands before the first row
abbrev pub at_start : Standing
at_start = record { folded = 0; still_shown = 0; front = Same; left = 0; right = 0; changes = 0; table = Closed; blocks = 0 }

-- what stands behind a row, but for the table and the fold
abbrev pub with_row : Row → Standing → Standing
with_row row at =
    record at { still_shown = context_behind at.still_shown row; front = row; left = at.left + left_in row; right = at.right + right_in row; changes = changes_with at.front at.changes row }

-- what stands behind a row that is seen, in a table
abbrev pub with_shown : Row → Standing → Standing
with_shown row at = record (with_row row at) { table = table_behind at.table; blocks = blocks_behind at.table at.blocks }

-- what stands behind a row in a fold, of which so many rows are left from that one on
abbrev pub with_fold : ℕ → Row → Standing → Standing
with_fold count row at = record (with_row row at) { folded = count - 1; table = Closed }

-- a row that is seen, and what begins before it
abbrev pub seen_text : SessionValue → SessionValue → ℕ → Standing → Row → List Row → List ℕ
seen_text one other all at row rows =
    opening at.table at.blocks at.left at.right
    ++ row_text one other (record { kind = row; left = at.left; right = at.right }) (begun at.front at.changes all row rows)

-- the fold that begins with a row, and has so many
abbrev pub fold_at : Standing → ℕ → Fold
fold_at at count = record { left = at.left; right = at.right; count = count }

-- A row is written where it is seen; else the fold that begins with it, before which the table ends; and within a fold
-- nothing more.
abbrev pub row_or_fold : SessionValue → SessionValue → ℕ → Standing → Row → List Row → List ℕ
row_or_fold one other all at row rows =
    if nat_lt 0 at.folded then []
    else if is_shown at.still_shown (row ∷ rows)
    then seen_text one other all at row rows
    else table_end at.table ++ fold_text one other (fold_at at (folded_in (row ∷ rows)))

-- what stands behind a row: one within a fold, one that is seen, or the first one of a fold
abbrev pub standing_behind : Standing → Row → List Row → Standing
standing_behind at row rows =
    if nat_lt 0 at.folded then with_fold at.folded row at
    else if is_shown at.still_shown (row ∷ rows) then with_shown row at
    else with_fold (folded_in (row ∷ rows)) row at

-- the rows from one on, where so much stands before them, and the end of the last table
abbrev pub rows_behind : SessionValue → SessionValue → ℕ → Standing → List Row → List ℕ
rows_behind one other all at [] = table_end at.table
rows_behind one other all at (row ∷ rows) = row_or_fold one other all at row rows ++ rows_behind one other all (standing_behind at row rows) rows
