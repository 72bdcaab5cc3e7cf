use Rattle.std.proofs.Common.{◌≡◌, drop, map}
use Rattle.profile.specs.Answers.{unit_value}
use Rattle.asked_profile.specs.Choice.{unit_named}
use Rattle.asked_profile.proofs.choice.unit_named.Given as goal

abbrev pub invariant-units : goal.invariant-units
invariant-units l = unit_named (map unit_value l.units) l.name ≡ unit_named (map unit_value (drop l.one-index l.units)) l.name
