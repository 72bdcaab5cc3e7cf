use Rattle.std.proofs.Common.{arith}
use Rattle.can_log.proofs.DigitValues.{next_hex, one_more}
use Rattle.can_log.proofs.meaning.hex_number.Goals as goal

pub overflow_mul-n : goal.overflow_mul-n
overflow_mul-n c = omega (arith, next_hex c.args.digits.now c.loop-d.d-index c.loop-d.n c.requires.each c.requires.few c.loop-d-test.true c.loop-d.invariant)

pub overflow_add-n : goal.overflow_add-n
overflow_add-n c = omega (arith, c.hex_digit_value.ensures.bound, next_hex c.args.digits.now c.loop-d.d-index c.loop-d.n c.requires.each c.requires.few c.loop-d-test.true c.loop-d.invariant)

pub loop-d-preserved : goal.loop-d-preserved
loop-d-preserved c = one_more 16 c.args.digits.now c.loop-d.d-index c.loop-d.n _ c.loop-d-test.true c.loop-d.invariant c.hex_digit_value.ensures.value
