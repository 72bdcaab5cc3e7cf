use Rattle.std.proofs.Common.{◌≡◌, Ok, drop, map}
use Rattle.toml.specs.View.{items_view}
use Rattle.profile.specs.Units.{units_behind}
use Rattle.profile.specs.Answers.{parts_value}
use Rattle.profile.proofs.units.add_units.Given as goal

abbrev pub invariant-items : goal.invariant-items
invariant-items l =
    units_behind (items_view (drop l.item-index l.item-items)) (Ok (map parts_value l.units.items))
    ≡ units_behind (items_view l.item-items) (Ok (map parts_value l.initial.units.items))
