use Rattle.std.proofs.Common.{refl}
use Rattle.can_log.proofs.DigitMasks.{mask_of_both}
use Rattle.can_log.proofs.lanes.other_digits_of_both.Goals as goal

pub returns : goal.returns
returns c = mask_of_both c.args.bytes.now _ c.other_digits.result c.other_digits-2.result c.requires c.other_digits.ensures.mask refl c.other_digits-2.ensures.mask
