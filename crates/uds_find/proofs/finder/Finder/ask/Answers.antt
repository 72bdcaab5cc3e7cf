-- Memory is needed for the first request of an identifier.
use Rattle.std.proofs.Common.{subst, sym}
use Rattle.uds_find.specs.Asking.{request_count}
use Rattle.uds_find.specs.Finding.{HasCounted}
use Rattle.uds_find.proofs.Results.{when_err}
use Rattle.uds_find.proofs.finder.Finder.ask.Goals as goal

pub returns-in_err-count_request-clause-needs : goal.returns-in_err-count_request-clause-needs
returns-in_err-count_request-clause-needs c =
    when_err c.from_residual.result (λ frames stands.
    c.in_err-count_request.ensures.needs (request_count frames) (subst (HasCounted frames) (sym c.self.view_is) stands).requests)
