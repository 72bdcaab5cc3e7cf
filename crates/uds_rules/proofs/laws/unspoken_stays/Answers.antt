use Rattle.uds_rules.proofs.Promises.{unspoken_stays}
use Rattle.uds_rules.proofs.laws.unspoken_stays.Goals as goal

pub returns : goal.returns
returns c = unspoken_stays
