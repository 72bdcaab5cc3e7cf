use Rattle.isotp_receive.proofs.Promises.{kept_is_within}
use Rattle.isotp_receive.proofs.laws.kept_is_within.Goals as goal

pub returns : goal.returns
returns c = kept_is_within
