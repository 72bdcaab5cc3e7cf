use Rattle.std.proofs.Common.{◌≡◌, drop}
use Rattle.toml.specs.View.{items_view}
use Rattle.profile.specs.Keys.{are_strings}
use Rattle.profile.proofs.keys.are_strings.Given as goal

abbrev pub invariant-items : goal.invariant-items
invariant-items l = are_strings (items_view (drop l.item-index l.item-items)) ≡ are_strings (items_view l.item-items)
