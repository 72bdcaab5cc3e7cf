use Rattle.can_log.proofs.DigitMasks.{digits_from_mask}
use Rattle.can_log.proofs.lanes.Told.digits.Goals as goal

pub returns : goal.returns
returns c few = digits_from_mask c.args.self c.args._bytes.now c.digits_told.result c.requires c.digits_told.ensures few
