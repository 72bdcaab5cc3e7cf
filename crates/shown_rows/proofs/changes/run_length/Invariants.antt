use Rattle.std.proofs.Common.{◌≡◌, ◌+◌, drop}
use Rattle.shown_rows.specs.Changes.{run_length}
use Rattle.shown_rows.proofs.changes.run_length.Given as goal

abbrev pub invariant-rows : goal.invariant-rows
invariant-rows l = l.k + run_length l.kind (drop l.k l.rows) ≡ run_length l.kind l.rows
