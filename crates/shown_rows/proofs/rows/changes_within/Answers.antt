use Rattle.std.proofs.Common.{◌<◌, length, sym, ◌∙◌, arith}
use Rattle.std.specs.Prelude.{min}
use Rattle.shown_rows.proofs.RowSteps.{found-at, never, not-yet-at}
use Rattle.shown_rows.proofs.rows.changes_within.Goals as goal

pub returns-then-is_change : goal.returns-then-is_change
returns-then-is_change c =
    let below : c.rows.k < min c.args.count (length c.args.rows.now) = omega (arith, c.min-seen.ensures, c.rows-test.true) in
    sym (found-at c.args.count c.args.rows.now c.rows.k _ below (sym c.is_change.ensures ∙ c.if-is_change.true)) ∙ c.rows.invariant

pub rows-preserved : goal.rows-preserved
rows-preserved c =
    let below : c.rows.k < min c.args.count (length c.args.rows.now) = omega (arith, c.min-seen.ensures, c.rows-test.true) in
    sym (not-yet-at c.args.count c.args.rows.now c.rows.k _ below (sym c.is_change.ensures ∙ c.if-is_change.false)) ∙ c.rows.invariant

pub returns : goal.returns
returns c = sym (never c.args.count c.args.rows.now c.rows.k (omega (arith, c.min-seen.ensures, c.rows-test.false))) ∙ c.rows.invariant
