use Rattle.std.proofs.Common.{◌+◌, arith, ap, drop, get_or, refl, sym, ◌∙◌}
use Rattle.std.proofs.lemmas.List.{drop_all, drop_more}
use Rattle.trace_difference.specs.Objects.{rows_text}
use Rattle.trace_difference.proofs.ObjectsLeft.{turn-change, turn-none}
use Rattle.text_parts.proofs.Promises.{none-said, said-whole, same-rest}
use Rattle.trace_difference.proofs.row_objects.say_rows.Goals as goal
use Rattle.trace_difference.proofs.row_objects.say_rows.Goals.{then-behind_change, else-behind_change}

pub rows-init : goal.rows-init
rows-init g c = record {
  few = omega arith;
  left_small = omega arith;
  right_small = omega arith;
  left = none-said g.S.TextSink.says c.args.out.now _ _ (g.met.S.TextSink.nothing c.args.out.now) refl;
}

pub rows-preserved : goal.rows-preserved
rows-preserved g c =
    let xs = c.args.left.now in
    let ys = c.args.right.now in
    let rules = c.args.rules.now in
    let rows = c.args.rows.now in
    let k = c.rows.row-index in
    let at = drop_more rows k _ c.rows-test.true in
    record {
      few = omega (arith, c.next_change_number-change_number.ensures.few, c.rows.invariant.few);
      left_small = omega (arith, c.rows.invariant.left_small, c.left_in-left_before.ensures.one);
      right_small = omega (arith, c.rows.invariant.right_small, c.right_in-right_before.ensures.one);
      left = rw (c.next_change_number-change_number.ensures.value, c.is_change-behind_change.ensures, c.left_in-left_before.ensures.value, c.right_in-right_before.ensures.value)
          (elim c.if-behind_change.branch [
            | then-behind_change w ↦
                rw w.out-is
                (turn-change g.S.TextSink.says g.met.S.TextSink.onward rules xs ys c.args.out.now _ (drop k rows) (drop (k + 1) rows) (get_or rows k _) c.rows.change_number c.rows.behind_change c.rows.left_before c.rows.right_before
                c.rows.out at _ (sym c.is_change-behind_change.ensures ∙ w.if-behind_change.true) c.rows.invariant.left (rw c.next_change_number-change_number.ensures.value at w.say_row.ensures))
            | else-behind_change w ↦
                rw w.out-is
                (turn-none g.S.TextSink.says g.met.S.TextSink.onward rules xs ys c.args.out.now _ (drop k rows) (drop (k + 1) rows) (get_or rows k _) c.rows.change_number c.rows.behind_change c.rows.left_before c.rows.right_before
                c.rows.out at (sym c.is_change-behind_change.ensures ∙ w.if-behind_change.false) c.rows.invariant.left)
          ]);
    }

pub returns : goal.returns
returns g c =
    said-whole g.S.TextSink.says c.args.out.now c.rows.out _
    (same-rest g.S.TextSink.says c.args.out.now c.rows.out _ _ _
    (ap (rows_text c.args.rules.now c.args.left.now c.args.right.now c.rows.change_number c.rows.behind_change c.rows.left_before c.rows.right_before) (drop_all c.rows.row-index c.args.rows.now c.rows-test.false)) c.rows.invariant.left)
