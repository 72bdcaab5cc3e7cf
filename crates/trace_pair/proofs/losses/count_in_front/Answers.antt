-- What is missing in front of an item is what the rows tell, from those of the item before up to its own.
use Rattle.std.proofs.Common.{◌≡◌, ℕ, ◌-◌, List, length, ap, sym, ◌∙◌}
use Rattle.trace_report.specs.Items.{rows_before}
use Rattle.trace_report.specs.Rows.{RowValue}
use Rattle.trace_pair.specs.Losses.{first_row}
use Rattle.trace_pair.specs.proving.Losing.{lost}
use Rattle.trace_pair.proofs.LossPlaces.{in-front-counted, piece}
use Rattle.trace_pair.proofs.losses.count_in_front.Goals as goal

pub returns : goal.returns
returns c =
    let rows = c.args.session.now.rows in
    let item = c.args.item in
    let own = c.rows-rows.result.now in
    let all : own ≡ rows = c.rows-rows.ensures in
    let from : c.first_row-from.result ≡ first_row (item - 1) own =
    c.first_row-from.ensures ∙ ap (λ (n : ℕ). first_row n own) c.saturating_sub.ensures in
    c.count_lost.ensures
    ∙ (λ i. length (lost (piece (from i) (c.rows_before.ensures i) own)))
    ∙ ap (λ (l : List RowValue). length (lost (piece (first_row (item - 1) l) (rows_before item l) l))) all
    ∙ sym (in-front-counted rows item)
