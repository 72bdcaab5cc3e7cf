-- The law is its lemma.
use Rattle.uds_echo.proofs.Untold.{asked_is_not_told}
use Rattle.uds_echo.proofs.laws.asked_is_not_told.Goals as goal

pub returns : goal.returns
returns c = asked_is_not_told
