use Rattle.std.proofs.Common.{◌≡◌, Some, get_or, option_map, sym, ap, ◌∙◌}
use Rattle.std.specs.Prelude.{option_and_then}
use Rattle.toml.specs.Data.{as_str, get_item}
use Rattle.toml.specs.View.{view, items_view, array_view}
use Rattle.toml.proofs.Views.{get_item_within}
use Rattle.profile.specs.ProfileRules.{items_or_none}
use Rattle.profile.proofs.Behind.{none_behind}
use Rattle.profile.proofs.profile_rules.text_in.Goals as goal

pub returns-in-Some-get : goal.returns-in-Some-get
returns-in-Some-get c =
    let values = c.deref.result.now in
    let place = c.args.place in
    let value = c.in-Some-get.value.now in
    let found = c.get.ensures.lookup in
    let within = rw c.in-Some-get.is at found.3 in
    let here : value ≡ get_or values place value = rw c.in-Some-get.is at found.1 in
    let got = ap (λ array. get_item place (items_or_none (option_map (λ array. array_view array.now) array))) c.in-Some.is
    ∙ ap (λ values. get_item place (items_view values)) (sym c.deref.ensures.value)
    ∙ sym (get_item_within values place value within.0)
    ∙ ap (λ value. Some (view value)) (sym here)
    in
    c.as_str.ensures ∙ sym (ap (option_and_then as_str) got)

pub returns-in-None-get : goal.returns-in-None-get
returns-in-None-get c =
    let values = c.deref.result.now in
    let place = c.args.place in
    let found = c.get.ensures.lookup in
    let got = ap (λ array. get_item place (items_or_none (option_map (λ array. array_view array.now) array))) c.in-Some.is
    ∙ ap (λ values. get_item place (items_view values)) (sym c.deref.ensures.value)
    ∙ none_behind values place (rw c.in-None-get.is at found.3)
    in
    sym (ap (option_and_then as_str) got)
