use Rattle.udsnorm_c.proofs.PairsTold.{pair_page_agrees}
use Rattle.udsnorm_c.proofs.laws.pair_page_agrees_with_compare.Goals as goal

pub returns : goal.returns
returns c = pair_page_agrees c.agrees_with_compare.ensures
