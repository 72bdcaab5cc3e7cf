use Rattle.isotp_pdu.proofs.Announced.{first_length_means}
use Rattle.isotp_pdu.proofs.laws.first_length_means.Goals as goal

pub returns : goal.returns
returns c = first_length_means
