use Rattle.uds_rules.proofs.Promises.{rule_speaks_alone}
use Rattle.uds_rules.proofs.laws.rule_speaks_alone.Goals as goal

pub returns : goal.returns
returns c = rule_speaks_alone
