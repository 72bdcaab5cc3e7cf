-- The row is looked for from the place of the loop on.
use Rattle.std.proofs.Common.{◌≤◌}
use Rattle.trace_pair.proofs.RowsWith.{IsFrom}
use Rattle.trace_pair.proofs.counterparts.row_with.Given as goal

abbrev pub invariant-rows : goal.invariant-rows
invariant-rows l = record { left_small : l.left ≤ l.k; right_small : l.right ≤ l.k; so_far : IsFrom l.log l.number l.rows l.left l.right l.k }
