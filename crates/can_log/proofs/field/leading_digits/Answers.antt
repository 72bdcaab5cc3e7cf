use Rattle.std.proofs.Common.{◌≡◌, true, arith, sym, ◌∙◌, get_or}
use Rattle.std.specs.Char.{is_ascii_digit}
use Rattle.can_log.specs.declared.field.Class.TheVariants.{Digit}
use Rattle.can_log.proofs.Runs.{goes_on, stops, ends, is_full}
use Rattle.can_log.proofs.DigitValues.{digit_is, digits_so_far, digits_in_all, digits_more, one_more}
use Rattle.can_log.proofs.field.leading_digits.Goals as goal

pub overflow_mul-value : goal.overflow_mul-value
overflow_mul-value c = omega (arith, c.requires, digits_so_far c.args.bytes.now c.loop-n.n c.loop-n.value c.loop-n.invariant.each (omega arith) c.loop-n.invariant.value)

pub overflow_add-value : goal.overflow_add-value
overflow_add-value c =
    let small = digits_so_far c.args.bytes.now c.loop-n.n c.loop-n.value c.loop-n.invariant.each (omega arith) c.loop-n.invariant.value in
    let digit = digit_is (get_or c.args.bytes.now c.loop-n.n 0) (sym c.contains.ensures ∙ c.if-contains.true) in
    omega (arith, small, digit.0, digit.1)

pub loop-n-preserved : goal.loop-n-preserved
loop-n-preserved c =
    let is : is_ascii_digit (get_or c.args.bytes.now c.loop-n.n 0) ≡ true = sym c.contains.ensures ∙ c.if-contains.true in
    record {
      within = omega arith;
      below = omega arith;
      so_far = goes_on Digit c.args.most c.loop-n.n c.args.bytes.now _ c.loop-n-test.true c.if-n-bytes.true is c.loop-n.invariant.so_far;
      each = digits_more c.args.bytes.now c.loop-n.n c.if-n-bytes.true c.loop-n.invariant.each is;
      value = one_more 10 c.args.bytes.now c.loop-n.n c.loop-n.value _ c.if-n-bytes.true c.loop-n.invariant.value (digit_is (get_or c.args.bytes.now c.loop-n.n 0) is).0;
    }

pub returns-else-contains-clause-length : goal.returns-else-contains-clause-length
returns-else-contains-clause-length c = stops Digit c.args.most c.loop-n.n c.args.bytes.now _ c.if-n-bytes.true (sym c.contains.ensures ∙ c.if-contains.false) c.loop-n.invariant.so_far

pub returns-else-contains-clause-bound : goal.returns-else-contains-clause-bound
returns-else-contains-clause-bound c = digits_in_all c.args.bytes.now c.loop-n.n c.loop-n.value c.loop-n.invariant.each (omega arith) c.loop-n.invariant.value

pub returns-else-n-bytes-clause-length : goal.returns-else-n-bytes-clause-length
returns-else-n-bytes-clause-length c = ends Digit c.args.most c.loop-n.n c.args.bytes.now _ (omega arith) c.loop-n.invariant.so_far

pub returns-else-n-bytes-clause-bound : goal.returns-else-n-bytes-clause-bound
returns-else-n-bytes-clause-bound c = digits_in_all c.args.bytes.now c.loop-n.n c.loop-n.value c.loop-n.invariant.each (omega arith) c.loop-n.invariant.value

pub returns-after-loop-n-clause-length : goal.returns-after-loop-n-clause-length
returns-after-loop-n-clause-length c = is_full Digit c.args.most c.loop-n.n c.args.bytes.now _ (omega arith) c.loop-n.invariant.so_far

pub returns-after-loop-n-clause-bound : goal.returns-after-loop-n-clause-bound
returns-after-loop-n-clause-bound c = digits_in_all c.args.bytes.now c.loop-n.n c.loop-n.value c.loop-n.invariant.each (omega arith) c.loop-n.invariant.value
