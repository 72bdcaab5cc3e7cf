use Rattle.std.proofs.Common.{◌≡◌, ◌+◌, drop}
use Rattle.shown_rows.specs.Hunks.{rows_to_last_change}
use Rattle.shown_rows.proofs.hunks.rows_to_last_change.Given as goal

abbrev pub invariant-rows : goal.invariant-rows
invariant-rows l = l.k + rows_to_last_change (drop l.k l.rows) ≡ rows_to_last_change l.rows
