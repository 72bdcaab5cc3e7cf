use Rattle.isotp_receive.proofs.Promises.{events_go_on, events_are_as_many}
use Rattle.isotp_receive.proofs.laws.events_go_on.Goals as goal

pub returns : goal.returns
returns c = record { more = events_go_on; count = events_are_as_many }
