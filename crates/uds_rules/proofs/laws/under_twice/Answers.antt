use Rattle.uds_rules.proofs.Promises.{under_twice}
use Rattle.uds_rules.proofs.laws.under_twice.Goals as goal

pub returns : goal.returns
returns c = under_twice
