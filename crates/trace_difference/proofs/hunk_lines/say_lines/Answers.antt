use Rattle.std.proofs.Common.{◌≡◌, ℕ, ◌+◌, ◌<◌, List, ◌∷◌, length, get_or, ap, ◌∙◌, arith, drop}
use Rattle.std.proofs.lemmas.List.{drop_all, drop_more}
use Rattle.uds_difference.specs.declared.row.Row.TheVariants.{Same, Changed, OnlyLeft, OnlyRight}
use Rattle.trace_difference.proofs.LineSteps.{begins}
use Rattle.trace_difference.proofs.LinesLeft.{turn-changed, turn-end, turn-left, turn-right, turn-same}
use Rattle.text_parts.proofs.Promises.{none-said}
use Rattle.trace_difference.proofs.hunk_lines.say_lines.Goals as goal
use Rattle.trace_difference.proofs.hunk_lines.say_lines.Goals.{in-Same, in-Changed, in-OnlyLeft, in-OnlyRight}

-- what a list has from a place on, where its item there is known
drop-is : {X : Type 0} (xs : List X) (i : ℕ) (d x : X) → i < length xs → get_or xs i d ≡ x → drop i xs ≡ x ∷ drop (i + 1) xs
drop-is {X = X} xs i d x h is = drop_more xs i d h ∙ ap (λ (v : X). v ∷ drop (i + 1) xs) is

pub rows-init : goal.rows-init
rows-init g c = record {
  small = omega arith;
  forward = omega arith;
  below = omega arith;
  left = none-said g.S.TextSink.says c.args.out.now _ _ (g.met.S.TextSink.nothing c.args.out.now)
      (begins c.args.rules.now c.args.left.now c.args.right.now c.args.left_before c.args.right_before c.args.rows.now);
}

pub rows-preserved : goal.rows-preserved
rows-preserved g c =
    let onward = g.met.S.TextSink.onward in
    let xs = c.args.left.now in
    let ys = c.args.right.now in
    let rules = c.args.rules.now in
    let rows = c.args.rows.now in
    let k = c.rows.row-index in
    let later = drop (k + 1) rows in
    let inv = c.rows.invariant in
    elim c.match-row.branch [
      | in-Same w ↦
          rw (w.out-is, w.left_at-is, w.right_at-is, w.waiting-is) (record {
            small = omega (arith, inv.small);
            forward = omega arith;
            below = omega (arith, inv.below);
            left = turn-same g.S.TextSink.says onward rules xs ys c.args.out.now _ (drop k rows) later c.rows.left_at c.rows.right_at c.rows.waiting c.rows.out
                (drop-is rows k _ Same c.rows-test.true w.in-Same.is) _ _ inv.left w.say_added.ensures w.say_line.ensures;
          })
      | in-Changed w ↦
          rw (w.out-is, w.left_at-is, w.right_at-is, w.waiting-is) (record {
            small = omega (arith, inv.small);
            forward = omega (arith, inv.forward);
            below = omega (arith, inv.below);
            left = turn-changed g.S.TextSink.says onward rules xs ys c.args.out.now _ (drop k rows) later c.rows.left_at c.rows.right_at c.rows.waiting c.rows.out
                (drop-is rows k _ Changed c.rows-test.true w.in-Changed.is) _ inv.forward inv.left w.say_line-in-Changed.ensures;
          })
      | in-OnlyLeft w ↦
          rw (w.out-is, w.left_at-is, w.right_at-is, w.waiting-is) (record {
            small = omega (arith, inv.small);
            forward = inv.forward;
            below = omega (arith, inv.below);
            left = turn-left g.S.TextSink.says onward rules xs ys c.args.out.now _ (drop k rows) later c.rows.left_at c.rows.right_at c.rows.waiting c.rows.out
                (drop-is rows k _ OnlyLeft c.rows-test.true w.in-OnlyLeft.is) _ inv.left w.say_line-in-OnlyLeft.ensures;
          })
      | in-OnlyRight w ↦
          rw (w.out-is, w.left_at-is, w.right_at-is, w.waiting-is) (record {
            small = omega (arith, inv.small);
            forward = omega (arith, inv.forward);
            below = omega (arith, inv.below);
            left = turn-right g.S.TextSink.says onward rules xs ys c.args.out.now _ (drop k rows) later c.rows.left_at c.rows.right_at c.rows.waiting c.rows.out
                (drop-is rows k _ OnlyRight c.rows-test.true w.in-OnlyRight.is) inv.forward inv.left;
          })
    ]

pub returns : goal.returns
returns g c =
    turn-end g.S.TextSink.says g.met.S.TextSink.onward c.args.rules.now c.args.left.now c.args.right.now c.args.out.now _
    (drop c.rows.row-index c.args.rows.now) c.args.rows.now c.rows.left_at c.rows.right_at
    c.rows.waiting c.rows.out (drop_all c.rows.row-index c.args.rows.now c.rows-test.false) _ c.rows.invariant.left c.say_added-2.ensures
