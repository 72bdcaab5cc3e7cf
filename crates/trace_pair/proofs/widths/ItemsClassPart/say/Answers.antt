-- The numbers are those of both sessions.
use Rattle.std.proofs.Common.{ℕ, List, ◌++◌, codes, length, max, ap, subst, ◌∙◌}
use Rattle.trace_report.specs.Items.{items_in}
use Rattle.trace_report.specs.Rows.{RowValue}
use Rattle.trace_pair.specs.Widths.{room}
use Rattle.trace_pair.proofs.widths.ItemsClassPart.say.Goals as goal

pub returns : goal.returns
returns g c =
    let left = c.item_count-left.ensures.value ∙ ap (λ (rows : List RowValue). length (items_in rows)) c.rows.ensures in
    let right = c.item_count-right.ensures.value ∙ ap (λ (rows : List RowValue). length (items_in rows)) c.rows-2.ensures in
    subst (λ (text : List ℕ). g.S.TextSink.says c.args.out.now text c.say.new.out)
    (ap (λ (n : ℕ). codes "w" ++ room 7 n) (c.max.ensures ∙ (λ i. max (left i) (right i)))) c.say.ensures
