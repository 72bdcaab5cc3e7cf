-- The law is its lemma.
use Rattle.uds_echo.proofs.Untold.{masked_is_not_told}
use Rattle.uds_echo.proofs.laws.masked_is_not_told.Goals as goal

pub returns : goal.returns
returns c = masked_is_not_told
