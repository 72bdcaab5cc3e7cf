use Rattle.std.proofs.Common.{◌∙◌, ap}
use Rattle.can_log.specs.proving.Plain.{first_set}
use Rattle.can_log.proofs.DigitMasks.{front_from_mask}
use Rattle.can_log.proofs.lanes.hex_front.Goals as goal

pub returns : goal.returns
returns c = front_from_mask c.args.bytes.now c.first_set.result c.requires (c.first_set.ensures ∙ ap first_set c.other_digits.ensures.mask)
