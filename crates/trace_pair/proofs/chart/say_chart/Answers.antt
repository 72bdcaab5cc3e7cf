-- The rows are those around the item; what stands behind them says how many more there are, or that the log ends.
use Rattle.std.proofs.Common.{◌≡◌, ℕ, ◌-◌, ◌<◌, ◌^◌, List, None, length, take, drop, max, min, ap, subst, ◌∙◌, arith}
use Rattle.std.specs.Prelude.{◌==◌}
use Rattle.trace_report.specs.Rows.{RowValue}
use Rattle.pair_words.specs.ChartWords.{chart_end, items_end}
use Rattle.trace_pair.specs.FirstDifference.{chart_from, chart_rows, chart_to, items_left, items_more, rows_more, chart_rows_text}
use Rattle.trace_pair.specs.proving.Marks.{charted_of}
use Rattle.trace_pair.proofs.ChartPlaces.{more-are, rows-are}
use Rattle.trace_pair.proofs.chart.say_chart.Goals as goal

pub returns : goal.returns
returns g c =
    let says = g.S.TextSink.says in
    let item = c.args.item in
    let rows = c.args.session.now.rows in
    let chart = charted_of c.args.chart in
    let own : c.rows-rows.result.now ≡ rows = c.rows-rows.ensures in
    let few : length c.args.session.now.rows < 2 ^ 63 = omega (arith, c.len.ensures.small, c.len.ensures.value, ap (λ (l : List RowValue). length l) own) in
    let from_is : c.chart_from-from.result ≡ chart_from item rows = c.chart_from-from.ensures ∙ ap (chart_from item) own in
    let to_is : c.chart_to-to.result ≡ chart_to item rows = c.chart_to-to.ensures ∙ ap (chart_to item) own in
    let end_is = c.min-end.ensures ∙ ap (min c.chart_to-to.result) c.saturating_add.ensures in
    let charted : take (c.min-end.result - c.chart_from-from.result) (drop c.chart_from-from.result c.rows-rows.result.now) ≡ chart_rows item rows =
    ap (λ (l : List RowValue). take (c.min-end.result - c.chart_from-from.result) (drop c.chart_from-from.result l)) own
    ∙ rows-are item rows few c.chart_from-from.result c.chart_to-to.result c.min-end.result from_is to_is end_is in
    let said_rows = subst (λ (text : List ℕ). says c.say.new.out text c.say_rows.new.out)
    (λ i. chart_rows_text chart (c.first_time.ensures i) None (max item 1) (charted i)) c.say_rows.ensures in
    let more : c.saturating_sub.result ≡ rows_more item rows =
    c.saturating_sub.ensures ∙ more-are item rows few c.chart_from-from.result c.chart_to-to.result c.min-end.result from_is to_is end_is in
    let ends : (c.chart_to-to.result == c.len.result) ≡ (chart_to item rows == length rows) =
    (λ i. to_is i == (c.len.ensures.value ∙ ap (λ (l : List RowValue). length l) own) i) in
    let said_end = subst (λ (text : List ℕ). says c.say_rows.new.out text c.say-2.new.out) (λ i. chart_end (more i) (ends i)) c.say-2.ensures in
    let left : c.items_left.result ≡ items_more item c.args.count rows = c.items_left.ensures ∙ (λ i. items_left (to_is i) item c.args.count (own i)) in
    let said_left = subst (λ (text : List ℕ). says c.say-2.new.out text c.say-3.new.out) (ap items_end left) c.say-3.ensures in
    let onward = g.met.S.TextSink.onward in
    onward _ _ _ _ _ (onward _ _ _ _ _ (onward _ _ _ _ _ (onward _ _ _ _ _ c.say.ensures said_rows) said_end) said_left) c.say-4.ensures
