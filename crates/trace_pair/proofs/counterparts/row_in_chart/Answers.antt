-- Before the first change the row of an item is the same in both logs, as none is: it has no tint, and no mark.
use Rattle.std.proofs.Common.{false, None, arith, refl, sym}
use Rattle.trace_pair.specs.Counterparts.{is_other_in, marks_in}
use Rattle.trace_pair.specs.proving.Marks.{charted_of}
use Rattle.trace_pair.proofs.RowsWith.{in-front, no-marks}
use Rattle.trace_pair.proofs.counterparts.row_in_chart.Goals as goal

pub returns-then-number-chart-clause-other : goal.returns-then-number-chart-clause-other
returns-then-number-chart-clause-other c =
    sym (in-front is_other_in false refl (λ at. refl) c.args.chart.log c.args.number 0 c.args.chart.same c.args.chart.rows.now c.requires (omega (arith, c.if-number-chart.true)))

pub returns-then-number-chart-clause-marks : goal.returns-then-number-chart-clause-marks
returns-then-number-chart-clause-marks c =
    let chart = charted_of c.args.chart in
    sym (in-front (marks_in chart) None refl (λ at. no-marks chart.log) chart.log c.args.number 0 c.args.chart.same chart.rows c.requires (omega (arith, c.if-number-chart.true)))
