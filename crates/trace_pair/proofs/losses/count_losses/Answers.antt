-- What is missing of the items is what their rows tell.
use Rattle.std.proofs.Common.{◌≡◌, ◌+◌, List, length, ap, sym, ◌∙◌}
use Rattle.trace_report.specs.Rows.{RowValue}
use Rattle.trace_pair.specs.Losses.{first_row}
use Rattle.trace_pair.specs.proving.Losing.{lost}
use Rattle.trace_pair.proofs.LossPlaces.{losses-counted, piece}
use Rattle.trace_pair.proofs.losses.count_losses.Goals as goal

pub returns : goal.returns
returns c =
    let rows = c.args.session.now.rows in
    let all : c.rows-rows.result.now ≡ rows = c.rows-rows.ensures in
    let item = c.args.item in
    let end = c.args.item + c.args.count in
    c.count_lost.ensures
    ∙ (λ i. length (lost (piece (c.stretch-from.ensures.from i) (c.stretch-from.ensures.to i) c.rows-rows.result.now)))
    ∙ ap (λ (l : List RowValue). length (lost (piece (first_row item l) (first_row end l) l))) all
    ∙ sym (losses-counted rows item c.args.count)
