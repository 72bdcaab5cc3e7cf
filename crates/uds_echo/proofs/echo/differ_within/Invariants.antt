-- What was found so far is whether the bytes differ at one of the places so far.
use Rattle.std.proofs.Common.{◌≡◌}
use Rattle.uds_echo.specs.Echo.{differ_within}
use Rattle.uds_echo.proofs.echo.differ_within.Given as goal

abbrev pub invariant-places : goal.invariant-places
invariant-places l = l.are_other ≡ differ_within l.has_sub_function l.request l.asked l.answer l.told l.before
