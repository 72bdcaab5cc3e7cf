use Rattle.uds_rules.proofs.Promises.{no_rules_keep_all}
use Rattle.uds_rules.proofs.laws.no_rules_keep_all.Goals as goal

pub returns : goal.returns
returns c = no_rules_keep_all
