use Rattle.std.proofs.Common.{◌≡◌, ◌+◌, ◌≤◌, drop}
use Rattle.shown_rows.specs.Rows.{count_of}
use Rattle.shown_rows.proofs.rows.count_of.Given as goal

abbrev pub invariant-rows : goal.invariant-rows
invariant-rows l = record { so_far : l.count + count_of l.kind (drop l.row-index l.rows) ≡ count_of l.kind l.rows; small : l.count ≤ l.row-index }
