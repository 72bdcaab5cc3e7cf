-- Where one row is not the same, and each before it is, the sessions differ first there.
use Rattle.std.proofs.Common.{sym, ◌∙◌}
use Rattle.trace_pair.proofs.FirstChanges.{all-same, none-looked-at, one-differs, one-same}
use Rattle.trace_pair.proofs.comparing.comparison_of.Goals as goal

pub rows-init : goal.rows-init
rows-init c = none-looked-at c.args.rows.now

pub returns-then-is_change : goal.returns-then-is_change
returns-then-is_change c =
    sym (one-differs c.args.rows.now c.rows.k c.rows.invariant _ c.rows-test.true (sym c.is_change.ensures ∙ c.if-is_change.true))

pub rows-preserved : goal.rows-preserved
rows-preserved c = one-same c.args.rows.now c.rows.k c.rows.invariant _ c.rows-test.true (sym c.is_change.ensures ∙ c.if-is_change.false)

pub returns : goal.returns
returns c = sym (all-same c.args.rows.now c.rows.k c.rows.invariant c.rows-test.false)
