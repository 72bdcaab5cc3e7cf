use Rattle.isotp_receive.proofs.StandingLaws.{stands-open, open-stands, standing-is-fixed}
use Rattle.isotp_receive.proofs.laws.what_stands_is_open.Goals as goal

pub returns : goal.returns
returns c = record { is_open = stands-open; stands = open-stands; fixed = standing-is-fixed }
