-- The items that are left are those from the place of the loop on.
use Rattle.std.proofs.Common.{◌≡◌, ◌+◌, ◌-◌}
use Rattle.trace_pair.specs.FirstDifference.{items_left}
use Rattle.trace_pair.proofs.chart_rows.items_left.Given as goal

abbrev pub invariant-items : goal.invariant-items
invariant-items l = items_left l.place l.item l.count l.rows ≡ items_left l.place l.at (l.item + l.count - l.at) l.rows
