-- No item before the one that is looked at asks.
use Rattle.std.proofs.Common.{◌≡◌, ◌≤◌, List, length, ap, refl, sym, ◌∙◌, arith}
use Rattle.std.specs.Prelude.{slice_get}
use Rattle.std.proofs.lemmas.List.{length-map}
use Rattle.trace_report.specs.Items.{item_value, items_in}
use Rattle.trace_report.specs.Rows.{RowValue}
use Rattle.trace_pair.specs.Sessions.{values_in}
use Rattle.trace_pair.proofs.Asking.{asks-here, asks-later, asks-none}
use Rattle.trace_pair.proofs.verdict.has_request.Goals as goal

pub places-init : goal.places-init
places-init c = refl

pub returns-then-is_exchange_at : goal.returns-then-is_exchange_at
returns-then-is_exchange_at c =
    let items = values_in c.args.session.now in
    sym (c.places.invariant ∙ asks-here items c.places.at (slice_get items c.places.at) refl (sym c.is_exchange_at.ensures ∙ c.if-is_exchange_at.true))

pub places-preserved : goal.places-preserved
places-preserved c =
    let items = values_in c.args.session.now in
    c.places.invariant ∙ asks-later items c.places.at (slice_get items c.places.at) refl (sym c.is_exchange_at.ensures ∙ c.if-is_exchange_at.false)

pub returns : goal.returns
returns c =
    let items = values_in c.args.session.now in
    let own : length (items_in c.rows.result.now) ≡ length (items_in c.args.session.now.rows) = ap (λ (rows : List RowValue). length (items_in rows)) c.rows.ensures in
    let many : length items ≡ length (items_in c.args.session.now.rows) = length-map (items_in c.args.session.now.rows) item_value in
    let past : length items ≤ c.places.at = omega (arith, own, many, c.item_count-count.ensures.value, c.places-test.false) in
    sym (c.places.invariant ∙ asks-none items c.places.at past)
