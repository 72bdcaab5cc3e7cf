use Rattle.udsnorm.specs.declared.noticing.TheConstants.{KEPT}
use Rattle.udsnorm.proofs.Fronts.{front_grows}
use Rattle.udsnorm.proofs.noticing.NoticingSource.read.Goals as goal

pub invariant_of-self-2 : goal.invariant_of-self-2
invariant_of-self-2 g c = front_grows KEPT _ _ _ _ _ c.self.invariant c.keep.ensures c.in_ok-n.ensures.given
