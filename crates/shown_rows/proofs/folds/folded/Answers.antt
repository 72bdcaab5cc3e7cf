use Rattle.std.proofs.Common.{arith, sym, ◌∙◌}
use Rattle.shown_rows.proofs.FoldSteps.{fold-end, fold-here, fold-later}
use Rattle.shown_rows.proofs.folds.folded.Goals as goal

pub returns-then-is_shown-clause-value : goal.returns-then-is_shown-clause-value
returns-then-is_shown-clause-value c =
    sym (fold-here c.args.rows.now c.rows.k c.rows-test.true (sym c.is_shown.ensures ∙ c.if-is_shown.true)) ∙ c.rows.invariant

pub rows-preserved : goal.rows-preserved
rows-preserved c = sym (fold-later c.args.rows.now c.rows.k c.rows-test.true (sym c.is_shown.ensures ∙ c.if-is_shown.false)) ∙ c.rows.invariant

pub returns-clause-value : goal.returns-clause-value
returns-clause-value c = let none = fold-end c.args.rows.now c.rows.k c.rows-test.false in omega (arith, none, c.rows.invariant, c.rows-test.false)
