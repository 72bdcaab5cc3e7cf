-- A later request takes the place of the one before it.
use Rattle.std.proofs.Common.{◌≡◌, ◌≤◌, ℕ, ◌-◌, suc, length, min, ap, sym, ◌∙◌, arith}
use Rattle.trace_report.specs.Items.{rows_before}
use Rattle.trace_pair.proofs.ChartPlaces.{latest-earlier, latest-end, latest-start, latest-there}
use Rattle.trace_pair.specs.Losses.{first_row}
use Rattle.trace_pair.proofs.BegunRows.{before-within}
use Rattle.trace_pair.proofs.LossPlaces.{first-earlier}
use Rattle.trace_pair.proofs.chart_rows.chart_from.Goals as goal
use Rattle.trace_pair.proofs.chart_rows.chart_from.Goals.{then-asks_at, else-asks_at}

pub rows-init : goal.rows-init
rows-init c = latest-start c.args.item c.args.rows.now c.saturating_sub-low.result c.min-end.result

pub rows-preserved : goal.rows-preserved
rows-preserved c =
    let item = c.args.item in
    let rows = c.args.rows.now in
    let low = c.saturating_sub-low.result in
    let end = c.min-end.result in
    elim c.if-asks_at.branch [
      | then-asks_at w ↦
          let later = latest-there item rows low end c.rows.at c.rows.from c.rows-test.true c.rows.auto.at c.rows.invariant (sym c.asks_at.ensures ∙ w.if-asks_at.true) in
          omega (arith, later)
      | else-asks_at w ↦
          let still = latest-earlier item rows low end c.rows.at c.rows.from c.rows-test.true c.rows.auto.at c.rows.invariant (sym c.asks_at.ensures ∙ w.if-asks_at.false) in
          omega (arith, still)
    ]

pub returns : goal.returns
returns c =
    let item = c.args.item in
    let rows = c.args.rows.now in
    let low_is : c.saturating_sub-low.result ≡ rows_before item rows - 8 = omega (arith, c.saturating_sub-low.ensures, c.rows_before.ensures) in
    let before : c.first_row-before.result ≡ first_row (item - 1) rows =
    c.first_row-before.ensures ∙ ap (λ (n : ℕ). first_row n rows) c.saturating_sub.ensures in
    let within : c.first_row-before.result ≤ length rows = omega (arith, before, first-earlier (item - 1) rows, before-within (item - 1) rows) in
    let end_is : c.min-end.result ≡ min (suc (first_row (item - 1) rows)) (length rows) =
    omega (arith, c.min-end.ensures, c.saturating_add.ensures, c.len.ensures.value, c.len.ensures.small, before, within) in
    latest-end item rows c.saturating_sub-low.result c.min-end.result c.rows.at c.rows.from c.rows-test.false low_is end_is c.rows.invariant
