use Rattle.isotp_receive.proofs.StandingLaws.{kept-bytes}
use Rattle.isotp_receive.proofs.laws.keeps_fewer_bytes.Goals as goal

pub returns : goal.returns
returns c = kept-bytes
