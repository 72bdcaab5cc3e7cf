-- The item at a place is that of the list, lent from where its messages lie.
use Rattle.std.proofs.Common.{◌∙◌, ◌≤◌, ap, sym, refl, Some, option_map, arith, length, rules}
use Rattle.std.specs.Prelude.{slice_get}
use Rattle.std.proofs.lemmas.Option.{slice_get_read, slice_get-map, slice_get_past}
use Rattle.uds_exchange.specs.proving.KeptItems.{item_at, items_at}
use Rattle.uds_exchange.proofs.KeptItems.{kept-at, length-items_at}
use Rattle.uds_exchange.proofs.meaning.Meaning.item.Goals as goal

pub item_at-requires : goal.item_at-requires
item_at-requires c =
    kept-at c.self.inside.messages c.self.inside.items.items c.args.i c.in-Some.item.now c.self.invariant (search rules) (search rules)

pub returns-in-Some : goal.returns-in-Some
returns-in-Some c =
    let messages = c.self.inside.messages in
    let items = c.self.inside.items.items in
    ap Some c.item_at.ensures
    ∙ sym (slice_get-map (item_at messages) items c.args.i
    ∙ ap (option_map (item_at messages)) (slice_get_read items (length items) c.args.i c.in-Some.item.now refl (search rules) (search rules)))
    ∙ ap (λ l. slice_get l c.args.i) c.self.view_is

pub returns-in-None : goal.returns-in-None
returns-in-None c =
    let messages = c.self.inside.messages in
    let items = c.self.inside.items.items in
    let over : length items ≤ c.args.i = search rules in
    sym (slice_get_past (items_at messages items) c.args.i (omega (arith, length-items_at messages items, over)))
    ∙ ap (λ l. slice_get l c.args.i) c.self.view_is
