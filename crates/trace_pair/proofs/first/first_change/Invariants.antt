-- The changes of all rows are those from the place of the loop on.
use Rattle.std.proofs.Common.{◌≡◌, ◌≤◌, drop}
use Rattle.uds_difference.specs.declared.row.Row.TheVariants.{Same}
use Rattle.shown_rows.specs.Changes.{changes, changes_from}
use Rattle.trace_pair.proofs.first.first_change.Given as goal

abbrev pub invariant-rows : goal.invariant-rows
invariant-rows l = record { left_small : l.i ≤ l.k; right_small : l.j ≤ l.k; so_far : changes l.rows ≡ changes_from Same l.i l.j (drop l.k l.rows) }
