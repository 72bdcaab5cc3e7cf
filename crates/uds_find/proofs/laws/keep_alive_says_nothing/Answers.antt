use Rattle.uds_find.proofs.Sayings.{keep_alive_says_nothing}
use Rattle.uds_find.proofs.laws.keep_alive_says_nothing.Goals as goal

pub returns : goal.returns
returns c = keep_alive_says_nothing
