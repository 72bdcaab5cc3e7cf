-- The first that is third of what is left is that of all.
use Rattle.std.proofs.Common.{◌≡◌}
use Rattle.std.specs.List.{find}
use Rattle.uds_find.specs.Functional.{is_third}
use Rattle.uds_find.proofs.functional.functional_beside.Given as goal

abbrev pub invariant-identifiers : goal.invariant-identifiers
invariant-identifiers l = find (is_third l.pair) l.id-iterator ≡ find (is_third l.pair) l.functional.keys
