use Rattle.uds_rules.proofs.Promises.{masked_by_places}
use Rattle.uds_rules.proofs.laws.masked_by_places.Goals as goal

pub returns : goal.returns
returns c = masked_by_places
