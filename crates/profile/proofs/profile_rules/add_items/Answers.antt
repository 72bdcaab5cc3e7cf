use Rattle.std.proofs.Common.{◌≡◌, ◌+◌, Ok, drop, get_or, option_map, sym, ap, ◌∙◌, arith}
use Rattle.std.proofs.lemmas.Grind.{common_steps}
use Rattle.toml.specs.Data.{item}
use Rattle.toml.specs.View.{view, items_view, array_view}
use Rattle.toml.proofs.Views.{items_view-drop}
use Rattle.profile.specs.Answers.{added}
use Rattle.profile.specs.ProfileRules.{item_behind, items_behind, items_or_none}
use Rattle.profile.proofs.Behind.{stops}
use Rattle.profile.proofs.profile_rules.add_items.Goals as goal

pub returns-in-Some-add_item : goal.returns-in-Some-add_item
returns-in-Some-add_item c =
    let key = c.args.key in
    let values = c.deref-item-items.result.now in
    let i = c.items.item-index in
    let value = c.item-item.result in
    let here : get_or values i value ≡ value = grind (arith, common_steps) in
    let split = items_view-drop values i value c.items-test.true ∙ ap (λ value. item (view value) (items_view (drop (i + 1) values))) here in
    let one = ap (λ text. item_behind key text (Ok c.items.rules)) (sym c.as_str.ensures)
    ∙ sym c.add_item.ensures
    ∙ ap (λ wrong. added wrong c.add_item.new.rules) c.in-Some-add_item.is
    in
    let whole = ap (λ array. items_or_none (option_map (λ array. array_view array.now) array)) c.in-Some.is
    ∙ ap items_view (sym c.deref-item-items.ensures.value)
    in
    sym (ap (λ items. items_behind key items (Ok c.args.rules.now)) whole
    ∙ sym c.items.invariant
    ∙ ap (λ items. items_behind key items (Ok c.items.rules)) split
    ∙ ap (items_behind key (items_view (drop (i + 1) values))) one
    ∙ stops key (items_view (drop (i + 1) values)) _)
