use Rattle.isotp_receive.proofs.Promises.{one_reference}
use Rattle.isotp_receive.proofs.laws.one_reference.Goals as goal

pub returns : goal.returns
returns c = one_reference
