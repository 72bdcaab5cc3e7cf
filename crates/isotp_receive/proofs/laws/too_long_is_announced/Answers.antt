use Rattle.isotp_receive.proofs.Promises.{too_long_is_announced}
use Rattle.isotp_receive.proofs.laws.too_long_is_announced.Goals as goal

pub returns : goal.returns
returns c = too_long_is_announced
