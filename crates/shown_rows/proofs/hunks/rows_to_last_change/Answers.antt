use Rattle.std.proofs.Common.{sym, ◌∙◌}
use Rattle.shown_rows.proofs.RowSteps.{last-here, last-later}
use Rattle.shown_rows.proofs.hunks.rows_to_last_change.Goals as goal

pub returns-then-not-changes_within-clause-value : goal.returns-then-not-changes_within-clause-value
returns-then-not-changes_within-clause-value c =
    sym (last-here c.args.rows.now c.rows.k c.rows-test.true (sym c.changes_within.ensures ∙ c.if-not-changes_within.true)) ∙ c.rows.invariant

pub rows-preserved : goal.rows-preserved
rows-preserved c = sym (last-later c.args.rows.now c.rows.k c.rows-test.true (sym c.changes_within.ensures ∙ c.if-not-changes_within.false)) ∙ c.rows.invariant
