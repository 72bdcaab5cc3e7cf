use Rattle.uds_rules.proofs.Promises.{mask_keeps_kind}
use Rattle.uds_rules.proofs.laws.mask_keeps_kind.Goals as goal

pub returns : goal.returns
returns c = mask_keeps_kind
