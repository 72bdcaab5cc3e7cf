use Rattle.std.proofs.Common.{◌≡◌, ◌+◌, ◌≤◌, drop}
use Rattle.shown_rows.specs.Rows.{right_count}
use Rattle.shown_rows.proofs.rows.right_count.Given as goal

abbrev pub invariant-rows : goal.invariant-rows
invariant-rows l = record { so_far : l.count + right_count (drop l.row-index l.rows) ≡ right_count l.rows; small : l.count ≤ l.row-index }
