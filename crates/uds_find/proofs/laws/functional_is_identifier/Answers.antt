use Rattle.uds_find.proofs.Counting.{functional_is_identifier}
use Rattle.uds_find.proofs.laws.functional_is_identifier.Goals as goal

pub returns : goal.returns
returns c = functional_is_identifier
