use Rattle.std.proofs.Common.{arith, ◌-◌, ◌%◌, ◌∙◌, length-set}
use Rattle.std.proofs.lemmas.Simd.{length-replicate}
use Rattle.can_log.proofs.DigitTable.{digit_at}
use Rattle.can_log.proofs.WrittenDigits.{none_written, one_digit, all_written}
use Rattle.can_log.proofs.digit_lanes.hexadecimal_digits.Goals as goal

pub loop-i-init : goal.loop-i-init
loop-i-init g c =
    let long = length-replicate g.row.WIDTH 48 in
    record { digits = none_written _ _ g.row.WIDTH (omega (arith, long)); length = long }

pub loop-i-preserved : goal.loop-i-preserved
loop-i-preserved g c = record {
  digits = one_digit _ c.loop-i.digits c.loop-i.i (c.loop-i.i - 1) c.loop-i.rest _ (omega arith) (omega (arith, c.loop-i.invariant.length)) (digit_at (c.loop-i.rest % 16) (omega arith)) c.loop-i.invariant.digits;
  length = length-set c.loop-i.digits (c.loop-i.i - 1) _ ∙ c.loop-i.invariant.length;
}

pub returns : goal.returns
returns g c = all_written _ c.loop-i.digits c.loop-i.i c.loop-i.rest (omega arith) c.loop-i.invariant.digits
