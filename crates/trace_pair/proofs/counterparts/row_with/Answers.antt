-- The row is the first one that has the item.
use Rattle.std.proofs.Common.{ℕ, ◌+◌, ◌<◌, ◌^◌, length, get_or, ap, sym, ◌∙◌, arith, rules}
use Rattle.uds_difference.specs.declared.row.Row.TheVariants.{Same}
use Rattle.trace_pair.proofs.RowsWith.{found-here, found-later, found-none, from-same, place-below}
use Rattle.trace_pair.proofs.counterparts.row_with.Goals as goal

pub rows-init : goal.rows-init
rows-init c = record {
  left_small = omega arith;
  right_small = omega arith;
  so_far = from-same c.args.log c.args.number 0 c.args.same c.args.rows.now c.args.same (omega arith) c.requires.same (omega (arith, c.requires.behind));
}

pub has_number-requires : goal.has_number-requires
has_number-requires c =
    let few : length c.args.rows.now < 2 ^ 63 = search rules in
    place-below c.args.log c.rows.left c.rows.right (2 ^ 63) (get_or c.args.rows.now c.rows.k Same)
    (omega (arith, few, c.rows.invariant.left_small, c.rows-test.true)) (omega (arith, few, c.rows.invariant.right_small, c.rows-test.true))

pub returns-then-has_number : goal.returns-then-has_number
returns-then-has_number c =
    found-here c.args.log c.args.number c.args.rows.now c.rows.left c.rows.right c.rows.k _ c.rows-test.true c.rows.invariant.so_far
    (sym c.has_number.ensures ∙ c.if-has_number.true)

pub rows-preserved : goal.rows-preserved
rows-preserved c = record {
  left_small = omega (arith, c.rows.invariant.left_small, c.left_in-left.ensures.one);
  right_small = omega (arith, c.rows.invariant.right_small, c.right_in-right.ensures.one);
  so_far = found-later c.args.log c.args.number c.args.rows.now c.rows.left c.rows.right c.rows.k _ c.rows-test.true c.rows.invariant.so_far
      (sym c.has_number.ensures ∙ c.if-has_number.false) _ _
      (ap (λ (n : ℕ). c.rows.left + n) c.left_in-left.ensures.value) (ap (λ (n : ℕ). c.rows.right + n) c.right_in-right.ensures.value);
}

pub returns : goal.returns
returns c = found-none c.args.log c.args.number c.args.rows.now c.rows.left c.rows.right c.rows.k c.rows-test.false c.rows.invariant.so_far
