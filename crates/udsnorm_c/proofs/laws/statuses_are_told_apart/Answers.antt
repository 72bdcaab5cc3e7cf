use Rattle.udsnorm_c.proofs.Words.{statuses_are_told_apart}
use Rattle.udsnorm_c.proofs.laws.statuses_are_told_apart.Goals as goal

pub returns : goal.returns
returns c = statuses_are_told_apart
