use Rattle.std.proofs.Common.{◌≡◌}
use Rattle.toml.specs.View.{members_view}
use Rattle.profile.specs.Keys.{wrong_keys}
use Rattle.profile.proofs.keys.wrong_keys.Given as goal

abbrev pub invariant-keys : goal.invariant-keys
invariant-keys l =
    (goal.iterator-keys).can_next l.key-iterator × (goal.iterator-keys).is_finite l.key-iterator
    × (wrong_keys (members_view l.key-iterator) ≡ wrong_keys (members_view l.document.entries))
