-- The numbers are those of the session.
use Rattle.std.proofs.Common.{◌≡◌, ℕ, ◌-◌, ◌/◌, List, length, ap, subst, ◌∙◌}
use Rattle.trace_report.specs.Items.{items_in}
use Rattle.trace_report.specs.Rows.{RowValue}
use Rattle.trace_pair.specs.Widths.{chart_classes}
use Rattle.trace_pair.proofs.widths.SessionClassesPart.say.Goals as goal

pub returns : goal.returns
returns g c =
    let items = c.item_count.ensures.value ∙ ap (λ (rows : List RowValue). length (items_in rows)) c.rows.ensures in
    let seconds : c.saturating_sub-length.result / 1000000 ≡ (c.args.self.0.now.last - c.args.self.0.now.first) / 1000000 =
    ap (λ (n : ℕ). n / 1000000) (c.saturating_sub-length.ensures ∙ (λ i. c.last_time.ensures i - c.first_time.ensures i)) in
    subst (λ (text : List ℕ). g.S.TextSink.says c.args.out.now text c.say.new.out)
    (λ i. chart_classes (items i) (c.summary.ensures i).lines (seconds i)) c.say.ensures
