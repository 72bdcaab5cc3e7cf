-- The laws are their lemmas.
use Rattle.asked_request.proofs.KeptRequests.{kept_is_enough, nothing_is_told_of_more}
use Rattle.asked_request.proofs.laws.kept_is_enough.Goals as goal

pub returns : goal.returns
returns c = record { enough = kept_is_enough; more = nothing_is_told_of_more }
