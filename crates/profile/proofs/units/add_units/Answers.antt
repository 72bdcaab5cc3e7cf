use Rattle.std.proofs.Common.{◌≡◌, ◌+◌, Ok, drop, get_or, map, option_map, sym, ap, ◌∙◌, arith}
use Rattle.std.proofs.lemmas.Grind.{common_steps}
use Rattle.toml.specs.Data.{item}
use Rattle.toml.specs.View.{view, items_view, array_view}
use Rattle.toml.proofs.Views.{items_view-drop}
use Rattle.profile.specs.Answers.{parts_value, units_added}
use Rattle.profile.specs.ProfileRules.{items_or_none}
use Rattle.profile.specs.Units.{table_behind, units_behind}
use Rattle.profile.proofs.Behind.{units_stop}
use Rattle.profile.proofs.units.add_units.Goals as goal

pub returns-in-Some-add_table : goal.returns-in-Some-add_table
returns-in-Some-add_table c =
    let values = c.deref-item-items.result.now in
    let i = c.items.item-index in
    let value = c.item-item.result in
    let here : get_or values i value ≡ value = grind (arith, common_steps) in
    let split = items_view-drop values i value c.items-test.true ∙ ap (λ value. item (view value) (items_view (drop (i + 1) values))) here in
    let one = ap (λ table. table_behind table (Ok (map parts_value c.items.units.items))) (sym c.as_table.ensures)
    ∙ sym c.add_table.ensures
    ∙ ap (λ wrong. units_added wrong c.add_table.new.units.items) c.in-Some-add_table.is
    in
    let whole = ap (λ array. items_or_none (option_map (λ array. array_view array.now) array)) c.in-Some.is
    ∙ ap items_view (sym c.deref-item-items.ensures.value)
    in
    sym (ap (λ items. units_behind items (Ok (map parts_value c.args.units.now.items))) whole
    ∙ sym c.items.invariant
    ∙ ap (λ items. units_behind items (Ok (map parts_value c.items.units.items))) split
    ∙ ap (units_behind (items_view (drop (i + 1) values))) one
    ∙ units_stop (items_view (drop (i + 1) values)) _)
