-- What was found so far is whether the data identifier is none of those so far.
use Rattle.std.proofs.Common.{◌≡◌}
use Rattle.uds_echo.specs.Echo.{is_none_of}
use Rattle.uds_echo.proofs.echo.is_none_of.Given as goal

abbrev pub invariant-identifiers : goal.invariant-identifiers
invariant-identifiers l = l.is_other ≡ is_none_of l.request l.asked l.answer l.told l.before
