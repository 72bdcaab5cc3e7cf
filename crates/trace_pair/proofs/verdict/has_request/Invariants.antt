-- Some item asks exactly where one asks from the place of the loop on.
use Rattle.std.proofs.Common.{◌≡◌}
use Rattle.std.specs.List.{list_any}
use Rattle.trace_pair.specs.Sessions.{values_in}
use Rattle.trace_pair.specs.Verdict.{is_exchange}
use Rattle.trace_pair.proofs.Asking.{asks_from}
use Rattle.trace_pair.proofs.verdict.has_request.Given as goal

abbrev pub invariant-places : goal.invariant-places
invariant-places l = list_any is_exchange (values_in l.session) ≡ asks_from (values_in l.session) l.at
