use Rattle.isotp_receive.proofs.StandingLaws.{one-open}
use Rattle.isotp_receive.proofs.laws.one_is_open.Goals as goal

pub returns : goal.returns
returns c = one-open
