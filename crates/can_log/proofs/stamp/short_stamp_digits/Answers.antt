use Rattle.can_log.proofs.ShortStamps.{picked_is_padded}
use Rattle.can_log.proofs.stamp.short_stamp_digits.Goals as goal

pub returns : goal.returns
returns c = picked_is_padded c.args.stamp.now c.requires.enough c.requires.short
