-- Each row is said behind those before it; where the log ends, no row is left.
use Rattle.std.proofs.Common.{◌≡◌, ℕ, ◌-◌, Some, None, option_map, take, drop, ap, sym, ◌∙◌}
use Rattle.std.specs.Prelude.{slice_get}
use Rattle.text_parts.proofs.Promises.{none-said}
use Rattle.trace_report.specs.Rows.{row_of}
use Rattle.trace_pair.specs.Counterparts.{is_other, marked_at}
use Rattle.trace_pair.specs.FirstDifference.{chart_rows_text}
use Rattle.trace_pair.specs.proving.Marks.{charted_of, marked_of}
use Rattle.trace_pair.proofs.ChartRows.{turn-end, turn-past, turn-row}
use Rattle.trace_pair.proofs.chart.say_rows.Goals as goal

pub rows-init : goal.rows-init
rows-init g c =
    none-said g.S.TextSink.says c.args.out.now _ _ (g.met.S.TextSink.nothing c.args.out.now)
    (ap (λ (last : ℕ). chart_rows_text (charted_of c.args.chart) c.args.origin None last (take (c.args.around.to - c.args.around.from) (drop c.args.around.from c.args.rows.now))) c.max-last.ensures)

pub rows-preserved : goal.rows-preserved
rows-preserved g c =
    let row = row_of c.in-Some.row in
    let there : slice_get c.args.rows.now c.rows.at ≡ Some row = sym c.in-Some.ensures in
    let chart = charted_of c.args.chart in
    turn-row g.S.TextSink.says g.met.S.TextSink.onward chart c.args.origin c.args.around.to c.args.rows.now c.args.out.now _
    c.rows.front c.rows.last c.last_begun-last.result c.rows.at row (option_map marked_of c.found_item-found.result.marked) c.begins_chart_body.result
    c.found_item-found.result.is_other c.rows.out c.say.new.out c.say_row.new.out c.rows-test.true there
    (c.found_item-found.ensures.other ∙ ap (is_other chart) c.number_of.ensures) (c.found_item-found.ensures.marks ∙ ap (marked_at chart) c.number_of.ensures)
    c.begins_chart_body.ensures c.last_begun-last.ensures c.rows.invariant c.say.ensures (rw (c.rules.ensures) at c.say_row.ensures)

pub returns-in_default : goal.returns-in_default
returns-in_default g c =
    let past : slice_get c.args.rows.now c.rows.at ≡ None = sym c.in_default.ensures in
    turn-past g.S.TextSink.says g.met.S.TextSink.onward (charted_of c.args.chart) c.args.origin c.args.around.to c.args.rows.now c.args.out.now _
    c.rows.front c.rows.last c.rows.at c.rows.out past c.rows.invariant

pub returns : goal.returns
returns g c =
    turn-end g.S.TextSink.says g.met.S.TextSink.onward (charted_of c.args.chart) c.args.origin c.args.around.to c.args.rows.now c.args.out.now _
    c.rows.front c.rows.last c.rows.at c.rows.out c.rows-test.false c.rows.invariant
