use Rattle.can_log.proofs.StampDigits.{time_marked}
use Rattle.can_log.proofs.line_clock.stamp_at.Goals as goal

pub returns : goal.returns
returns c = time_marked c.args.millis c.decimal_digits-text.result c.requires c.decimal_digits-text.ensures
