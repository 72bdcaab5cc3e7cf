-- Rows have no more changes than there are rows.
use Rattle.std.proofs.Common.{ℕ, suc, ◌+◌, ◌≤◌, Bool, true, false, List, [], ◌∷◌, length, arith}
use Rattle.std.specs.Prelude.{if◌then◌else◌}
use Rattle.uds_difference.specs.declared.row.Row.{Row}
use Rattle.shown_rows.specs.declared.changes.Change.{Change}
use Rattle.shown_rows.specs.Changes.{begins_change, change, change_length, changes_from}
use Rattle.shown_rows.specs.Rows.{left_in, right_in}

in-front : (begins : Bool) (here : Change) (later : List Change) (count : ℕ) → length later ≤ count → length (if begins then here ∷ later else later) ≤ suc count
in-front true here later count few = omega (arith, few)
in-front false here later count few = omega (arith, few)

pub no-more : (front : Row) (left right : ℕ) (rows : List Row) → length (changes_from front left right rows) ≤ length rows
no-more front left right [] = omega arith
no-more front left right (row ∷ later) =
    in-front (begins_change front row) (change row left right (change_length row later)) (changes_from row (left + left_in row) (right + right_in row) later)
    (length later) (no-more row (left + left_in row) (right + right_in row) later)
