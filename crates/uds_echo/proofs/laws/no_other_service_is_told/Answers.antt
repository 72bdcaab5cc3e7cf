-- The law is its lemma.
use Rattle.uds_echo.proofs.Untold.{no_other_service_is_told}
use Rattle.uds_echo.proofs.laws.no_other_service_is_told.Goals as goal

pub returns : goal.returns
returns c = no_other_service_is_told
