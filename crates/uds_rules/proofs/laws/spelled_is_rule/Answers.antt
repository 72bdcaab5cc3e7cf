use Rattle.uds_rules.proofs.Promises.{spelled_drop_is_rule, spelled_mask_is_rule}
use Rattle.uds_rules.proofs.laws.spelled_is_rule.Goals as goal

pub returns : goal.returns
returns c = record { drops = spelled_drop_is_rule; masks = spelled_mask_is_rule }
