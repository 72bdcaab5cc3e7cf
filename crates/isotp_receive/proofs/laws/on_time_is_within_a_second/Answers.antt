use Rattle.isotp_receive.proofs.Promises.{on_time_is_within_a_second}
use Rattle.isotp_receive.proofs.laws.on_time_is_within_a_second.Goals as goal

pub returns : goal.returns
returns c = on_time_is_within_a_second
