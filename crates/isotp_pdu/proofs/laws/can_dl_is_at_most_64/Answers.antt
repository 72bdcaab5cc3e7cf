use Rattle.isotp_pdu.proofs.Promises.{can_dl_is_at_most_64}
use Rattle.isotp_pdu.proofs.laws.can_dl_is_at_most_64.Goals as goal

pub returns : goal.returns
returns c = can_dl_is_at_most_64
