use Rattle.std.proofs.Common.{◌≡◌, drop}
use Rattle.toml.specs.View.{items_view}
use Rattle.profile.specs.Keys.{first_bad}
use Rattle.profile.proofs.keys.first_bad.Given as goal

abbrev pub invariant-items : goal.invariant-items
invariant-items l = first_bad l.key (items_view (drop l.item-index l.item-items)) ≡ first_bad l.key (items_view l.item-items)
