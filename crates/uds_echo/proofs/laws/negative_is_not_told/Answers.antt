-- The law is its lemma.
use Rattle.uds_echo.proofs.Untold.{negative_is_not_told}
use Rattle.uds_echo.proofs.laws.negative_is_not_told.Goals as goal

pub returns : goal.returns
returns c = negative_is_not_told
