use Rattle.isotp_receive.proofs.Promises.{clean_is_counted}
use Rattle.isotp_receive.proofs.laws.clean_is_counted.Goals as goal

pub returns : goal.returns
returns c = clean_is_counted
