use Rattle.std.proofs.Common.{arith}
use mir.Syntax.{w8}
use Rattle.std.proofs.lemmas.Simd.{SwzOk-from_below}
use Rattle.can_log.proofs.DigitTable.{looked_up}
use Rattle.can_log.proofs.digit_lanes.digits_of_values.Goals as goal

pub swizzle : goal.swizzle
swizzle c = SwzOk-from_below w8 16 1 16 0 c.args.values (omega arith) (omega arith) c.requires.each

pub returns : goal.returns
returns c = looked_up 0 c.args.values (omega arith) c.requires.each
