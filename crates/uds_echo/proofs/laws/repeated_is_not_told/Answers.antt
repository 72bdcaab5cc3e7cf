-- The law is its lemma.
use Rattle.uds_echo.proofs.Untold.{repeated_is_not_told}
use Rattle.uds_echo.proofs.laws.repeated_is_not_told.Goals as goal

pub returns : goal.returns
returns c = repeated_is_not_told
