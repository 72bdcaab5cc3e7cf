use Rattle.isotp_receive.proofs.Fits.{room-join, fits-join}
use Rattle.isotp_receive.proofs.laws.places_agree.Goals as goal

pub returns : goal.returns
returns c = record { carried = room-join; fits = fits-join }
