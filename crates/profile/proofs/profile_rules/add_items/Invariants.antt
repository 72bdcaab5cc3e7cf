use Rattle.std.proofs.Common.{◌≡◌, Ok, drop}
use Rattle.toml.specs.View.{items_view}
use Rattle.profile.specs.ProfileRules.{items_behind}
use Rattle.profile.proofs.profile_rules.add_items.Given as goal

abbrev pub invariant-items : goal.invariant-items
invariant-items l =
    items_behind l.key (items_view (drop l.item-index l.item-items)) (Ok l.rules)
    ≡ items_behind l.key (items_view l.item-items) (Ok l.initial.rules)
