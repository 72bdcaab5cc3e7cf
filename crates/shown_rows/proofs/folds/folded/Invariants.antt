use Rattle.std.proofs.Common.{◌≡◌, ◌+◌, drop}
use Rattle.shown_rows.specs.Folds.{folded}
use Rattle.shown_rows.proofs.folds.folded.Given as goal

abbrev pub invariant-rows : goal.invariant-rows
invariant-rows l = l.k + folded (drop l.k l.rows) ≡ folded l.rows
