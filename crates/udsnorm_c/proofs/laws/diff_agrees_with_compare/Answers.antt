use Rattle.udsnorm_c.proofs.PairsTold.{diff_agrees}
use Rattle.udsnorm_c.proofs.laws.diff_agrees_with_compare.Goals as goal

pub returns : goal.returns
returns c = diff_agrees c.agrees_with_compare.ensures
