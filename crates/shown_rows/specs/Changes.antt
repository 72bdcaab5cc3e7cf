-- The changes of rows: what a reader counts as one difference.
use Rattle.std.specs.Prelude.{ℕ, suc, ◌+◌, Bool, true, false, List, [], ◌∷◌, if◌then◌else◌}
use Rattle.uds_difference.specs.declared.row.Row.{Row}
use Rattle.uds_difference.specs.declared.row.Row.TheVariants.{Same, Changed, OnlyLeft, OnlyRight}
use Rattle.shown_rows.specs.declared.changes.Change.{Change}
use Rattle.shown_rows.specs.Rows.{left_in, right_in, same_row}

-- Whether a change begins with a row, by the row in front of it. Two items that changed are a change of their own; items
-- that only one session has are one change together, as far as they stand one behind another.
abbrev pub begins_change : Row → Row → Bool
begins_change front Same = false
begins_change front Changed = true
begins_change OnlyLeft OnlyLeft = false
begins_change OnlyRight OnlyRight = false
begins_change front row = true

-- how many rows from the first one on are of this kind
abbrev pub run_length : Row → List Row → ℕ
run_length kind [] = 0
run_length kind (row ∷ rows) = if same_row kind row then suc (run_length kind rows) else 0

-- how many rows the change has that begins with a row, by those behind it
abbrev pub change_length : Row → List Row → ℕ
change_length Changed rows = 1
change_length row rows = suc (run_length row rows)

-- a change: the kind of its rows, how many items of both sessions stand before it, and how many rows it has
abbrev pub change : Row → ℕ → ℕ → ℕ → Change
change kind left right count = record { kind = kind; left = left; right = right; count = count }

-- the changes of rows, by the row in front of them, and how many items of both sessions stand before them
abbrev pub changes_from : Row → ℕ → ℕ → List Row → List Change
changes_from front left right [] = []
changes_from front left right (row ∷ rows) =
    if begins_change front row
    then change row left right (change_length row rows) ∷ changes_from row (left + left_in row) (right + right_in row) rows
    else changes_from row (left + left_in row) (right + right_in row) rows

-- the changes of all rows of two sessions
abbrev pub changes : List Row → List Change
changes rows = changes_from Same 0 0 rows
