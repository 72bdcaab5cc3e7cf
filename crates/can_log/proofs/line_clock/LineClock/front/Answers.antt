use Rattle.std.proofs.Common.{ap, ◌∙◌}
use Rattle.can_log.specs.Canonical.{canonical_front}
use Rattle.can_log.proofs.StampDigits.{front_marked}
use Rattle.can_log.proofs.line_clock.LineClock.front.Goals as goal

pub returns : goal.returns
returns c = front_marked c.self.inside.millis _ _ c.self.invariant.1 c.copy_from_slice.ensures.after ∙ ap canonical_front c.self.view_is
