use Rattle.uds_find.proofs.Needing.{tester_is_another}
use Rattle.uds_find.proofs.laws.tester_is_another.Goals as goal

pub returns : goal.returns
returns c = tester_is_another
