use Rattle.std.proofs.Common.{arith, refl}
use Rattle.can_log.proofs.StampDigits.{stamp_counted}
use Rattle.can_log.proofs.line_clock.LineClock.advance.Goals as goal

pub invariant_of-self-else-self-eq57 : goal.invariant_of-self-else-self-eq57
invariant_of-self-else-self-eq57 c = (
  omega (arith, c.requires, c.self.view_is),
  stamp_counted _ (λ a b. refl) c.self.inside.millis c.self.inside.stamp c.self.invariant.1 c.if-self-eq57.false,
)
