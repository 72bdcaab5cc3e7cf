use Rattle.std.proofs.Common.{◌+◌, arith, ap, drop, get_or, refl}
use Rattle.std.proofs.lemmas.List.{drop_all, drop_more, take_rest}
use Rattle.trace_difference.specs.Unified.{hunk_text}
use Rattle.trace_difference.proofs.HunkSteps.{hunks_left}
use Rattle.trace_difference.proofs.HunksLeft.{turn-at, turn-before, turn-in}
use Rattle.text_parts.proofs.Promises.{none-said, said-whole, same-rest}
use Rattle.trace_difference.proofs.unified_text.say_hunks.Goals as goal
use Rattle.trace_difference.proofs.unified_text.say_hunks.Goals.{then-shown-gt0, else-shown-gt0+then-begins_hunk, else-shown-gt0+else-begins_hunk}

pub rows-init : goal.rows-init
rows-init g c = record {
  left_small = omega arith;
  right_small = omega arith;
  left = none-said g.S.TextSink.says c.args.out.now _ _ (g.met.S.TextSink.nothing c.args.out.now) refl;
}

pub rows-preserved : goal.rows-preserved
rows-preserved g c =
    let text = hunk_text c.args.rules.now c.args.left.now c.args.right.now in
    let rows = c.args.rows.now in
    let k = c.rows.k in
    let at = drop_more rows k _ c.rows-test.true in
    record {
      left_small = omega (arith, c.rows.invariant.left_small, c.left_in-left_before.ensures.one);
      right_small = omega (arith, c.rows.invariant.right_small, c.right_in-right_before.ensures.one);
      left = rw (c.left_in-left_before.ensures.value, c.right_in-right_before.ensures.value)
          (elim c.if-shown-gt0.branch [
            | then-shown-gt0 w ↦
                rw (w.out-is, w.shown-is)
                (turn-in g.S.TextSink.says g.met.S.TextSink.onward text c.args.out.now _ (drop k rows) (drop (k + 1) rows) (get_or rows k _) c.rows.shown c.rows.left_before c.rows.right_before c.rows.out at
                w.if-shown-gt0.true c.rows.invariant.left)
            | else-shown-gt0+then-begins_hunk w ↦
                rw (w.out-is, w.shown-is)
                (turn-at g.S.TextSink.says g.met.S.TextSink.onward text c.args.out.now _ (drop k rows) (drop (k + 1) rows) (get_or rows k _) c.rows.shown c.rows.left_before c.rows.right_before c.rows.out at
                (omega (arith, w.if-shown-gt0.false)) _ w.begins_hunk.result w.hunk_length-length.result _ (take_rest rows k) w.begins_hunk.ensures w.if-begins_hunk.true
                w.hunk_length-length.ensures.value c.rows.invariant.left w.say_hunk.ensures)
            | else-shown-gt0+else-begins_hunk w ↦
                rw (w.out-is, w.shown-is)
                (turn-before g.S.TextSink.says g.met.S.TextSink.onward text c.args.out.now _ (drop k rows) (drop (k + 1) rows) (get_or rows k _) c.rows.shown c.rows.left_before c.rows.right_before c.rows.out at
                (omega (arith, w.if-shown-gt0.false)) _ w.begins_hunk.result (take_rest rows k) w.begins_hunk.ensures w.if-begins_hunk.false c.rows.invariant.left)
          ]);
    }

pub returns : goal.returns
returns g c =
    let text = hunk_text c.args.rules.now c.args.left.now c.args.right.now in
    said-whole g.S.TextSink.says c.args.out.now c.rows.out _
    (same-rest g.S.TextSink.says c.args.out.now c.rows.out _ _ _ (ap (hunks_left text c.rows.shown c.rows.left_before c.rows.right_before) (drop_all c.rows.k c.args.rows.now c.rows-test.false)) c.rows.invariant.left)
