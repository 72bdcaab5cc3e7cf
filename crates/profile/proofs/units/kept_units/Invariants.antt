use Rattle.std.proofs.Common.{◌≡◌, map, take}
use Rattle.profile.specs.Answers.{parts_value, unit_value}
use Rattle.profile.proofs.units.kept_units.Given as goal

abbrev pub invariant-units : goal.invariant-units
invariant-units l = map unit_value l.units.items ≡ map parts_value (take l.one-index l.table)
