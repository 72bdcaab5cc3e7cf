-- The item at a place is the one of the messages that stand where it was noted.
use Rattle.std.proofs.Common.{◌≤◌, length, ap, sym, refl, ◌∙◌, rules}
use Rattle.std.specs.Prelude.{slice_get}
use Rattle.std.proofs.lemmas.Option.{slice_get_read, slice_get_past}
use Rattle.trace_report.specs.Items.{items_in}
use Rattle.trace_report.specs.proving.Keeping.{placed_at, rows_at}
use Rattle.trace_report.proofs.Placing.{item-placed, item_of_place}
use Rattle.trace_report.proofs.kept_rows.KeptRows.item.Goals as goal

pub returns-in-Some : goal.returns-in-Some
returns-in-Some c =
    let places = c.self.inside.items.items in
    let rows = rows_at c.self.inside.messages c.self.inside.rows.items in
    c.item_at.ensures ∙ ap (λ l. placed_at (rows_at c.self.inside.messages l) c.in-Some.item.now) c.as_slice.ensures.value
    ∙ sym (ap (item_of_place rows) (slice_get_read places (length places) c.args.at c.in-Some.item.now refl (search rules) (search rules)))
    ∙ item-placed rows places (items_in rows) c.args.at c.self.invariant.placed
    ∙ ap (λ l. slice_get (items_in l) c.args.at) c.self.view_is

pub returns-in-None : goal.returns-in-None
returns-in-None c =
    let places = c.self.inside.items.items in
    let rows = rows_at c.self.inside.messages c.self.inside.rows.items in
    let over : length places ≤ c.args.at = search rules in
    sym (ap (item_of_place rows) (slice_get_past places c.args.at over))
    ∙ item-placed rows places (items_in rows) c.args.at c.self.invariant.placed
    ∙ ap (λ l. slice_get (items_in l) c.args.at) c.self.view_is
