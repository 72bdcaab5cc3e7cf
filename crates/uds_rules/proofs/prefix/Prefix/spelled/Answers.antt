use Rattle.std.proofs.Common.{◌≤◌, ℕ, ◌/◌, length, replicate, sym, ◌∙◌, arith}
use Rattle.std.proofs.lemmas.List.{length-take-le, length-replicate}
use Rattle.uds_rules.proofs.Spellings.{no_bytes, many_bytes, held_prefix}
use Rattle.uds_rules.proofs.prefix.Prefix.spelled.Goals as goal

pub returns-then-count-eq0 : goal.returns-then-count-eq0
returns-then-count-eq0 c = sym (no_bytes c.args.digits.now c.if-count-eq0.true)

pub returns-then-count-gt-MOST_PREFIX : goal.returns-then-count-gt-MOST_PREFIX
returns-then-count-gt-MOST_PREFIX c = sym (many_bytes c.args.digits.now c.if-count-gt-MOST_PREFIX.true)

pub invariant_of-result : goal.invariant_of-result
invariant_of-result c =
    let zero : ℕ = 0 in
    let few : length c.args.digits.now / 2 ≤ length (replicate 16 zero) = omega (arith, length-replicate 16 zero, c.if-count-gt-MOST_PREFIX.false) in
    held_prefix c.decode_to_slice.new.out (length c.args.digits.now / 2) (c.decode_to_slice.auto.out ∙ length-take-le (length c.args.digits.now / 2) (replicate 16 zero) few) (omega (arith, c.if-count-eq0.false)) (omega (arith, c.if-count-gt-MOST_PREFIX.false))
