use Rattle.std.proofs.Common.{◌≡◌, ◌+◌, ◌≤◌, drop}
use Rattle.shown_rows.specs.Rows.{left_count}
use Rattle.shown_rows.proofs.rows.left_count.Given as goal

abbrev pub invariant-rows : goal.invariant-rows
invariant-rows l = record { so_far : l.count + left_count (drop l.row-index l.rows) ≡ left_count l.rows; small : l.count ≤ l.row-index }
