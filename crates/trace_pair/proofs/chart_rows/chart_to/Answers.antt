-- The first row that is a request ends the chart; where none is one, the log does.
use Rattle.std.proofs.Common.{◌≤◌, ◌<◌, ◌^◌, length, sym, ◌∙◌, arith, subst}
use Rattle.trace_pair.proofs.ChartPlaces.{NoneTo, none-to-end, none-to-here, none-to-next, to-is}
use Rattle.trace_pair.proofs.chart_rows.chart_to.Goals as goal

pub rows-init : goal.rows-init
rows-init c =
    let item = c.args.item in
    let rows = c.args.rows.now in
    let few : length rows < 2 ^ 63 = omega (arith, c.len-at-end.ensures.small, c.len-at-end.ensures.value) in
    subst (NoneTo item rows) (sym c.rows_before-second.ensures) (to-is item rows few c.saturating_add.result c.saturating_add.ensures)

pub returns-then-asks_at : goal.returns-then-asks_at
returns-then-asks_at c =
    none-to-here c.args.item c.args.rows.now c.rows.at c.rows.invariant (sym c.asks_at.ensures ∙ c.if-asks_at.true)

pub rows-preserved : goal.rows-preserved
rows-preserved c =
    let below : c.rows.at < length c.args.rows.now = omega (arith, c.rows-test.true, c.len-at-end.ensures.value) in
    none-to-next c.args.item c.args.rows.now c.rows.at c.rows.invariant below (sym c.asks_at.ensures ∙ c.if-asks_at.false)

pub returns : goal.returns
returns c =
    let past : length c.args.rows.now ≤ c.rows.at = omega (arith, c.rows-test.false, c.len-at-end.ensures.value) in
    c.len.ensures.value ∙ none-to-end c.args.item c.args.rows.now c.rows.at c.rows.invariant past
