use Rattle.std.proofs.Common.{◌≡◌, ◌-◌, drop}
use Rattle.shown_rows.specs.Rows.{changes_within}
use Rattle.shown_rows.proofs.rows.changes_within.Given as goal

abbrev pub invariant-rows : goal.invariant-rows
invariant-rows l = changes_within (l.count - l.k) (drop l.k l.rows) ≡ changes_within l.count l.rows
