use Rattle.std.proofs.Common.{◌≡◌, ◌-◌, arith, ap, sym, ◌∙◌}
use Rattle.std.proofs.lemmas.Bool.{le-ltb, lt-ltb}
use Rattle.byte_columns.specs.Lines.{line_count, line_differs}
use Rattle.byte_columns.proofs.Counting.{one_if}
use Rattle.byte_columns.proofs.LinePlaces.{before-few, before-next, folded-next, folded-none, folded-shown, lines-few}
use Rattle.byte_columns.proofs.column.ByteColumns.folded.Goals as goal
use Rattle.byte_columns.proofs.column.ByteColumns.folded.Goals.{then-differing_in-gt0, else-differing_in-gt0}

pub lines-init : goal.lines-init
lines-init c = record { up = omega arith; inside = c.requires.inside; differ = c.requires.before; so_far = omega arith }

pub overflow_add-differ : goal.overflow_add-differ
overflow_add-differ c =
    let few = before-few c.args.self.now c.lines.at in
    let all = lines-few c.args.self.now in
    omega (arith, c.lines.invariant.differ, c.lines.invariant.inside, few, all)

pub returns-then-is_shown-clause-value : goal.returns-then-is_shown-clause-value
returns-then-is_shown-clause-value c =
    let none = folded-shown c.args.self.now c.lines.at (line_count c.args.self.now - c.lines.at) (sym c.is_shown.ensures ∙ c.if-is_shown.true) in
    omega (arith, none, c.lines.invariant.so_far)

pub lines-preserved : goal.lines-preserved
lines-preserved c =
    let inv = c.lines.invariant in
    let columns = c.args.self.now in
    let count = c.line_count-count.ensures.value in
    let below = c.lines-test.true in
    let more = folded-next columns c.lines.at (line_count columns) (omega (arith, count, below)) (sym c.is_shown.ensures ∙ c.if-is_shown.false) in
    let next = before-next columns c.lines.at in
    let up = inv.up in
    elim c.if-differing_in-gt0.branch [
      | then-differing_in-gt0 w ↦
          let one : one_if (line_differs columns c.lines.at) ≡ 1 = ap one_if (lt-ltb 0 _ (omega (arith, c.differing_in.ensures.value, w.if-differing_in-gt0.true))) in
          record {
            up = omega arith;
            inside = omega (arith, count, below);
            differ = omega (arith, inv.differ, next, one);
            so_far = omega (arith, more, inv.so_far, count, below);
          }
      | else-differing_in-gt0 w ↦
          let none : one_if (line_differs columns c.lines.at) ≡ 0 = ap one_if (le-ltb 0 _ (omega (arith, c.differing_in.ensures.value, w.if-differing_in-gt0.false))) in
          record {
            up = omega arith;
            inside = omega (arith, count, below);
            differ = omega (arith, inv.differ, next, none);
            so_far = omega (arith, more, inv.so_far, count, below);
          }
    ]

pub returns-clause-value : goal.returns-clause-value
returns-clause-value c =
    let none = folded-none c.args.self.now c.lines.at (line_count c.args.self.now - c.lines.at) (omega (arith, c.line_count-count.ensures.value, c.lines-test.false)) in
    omega (arith, none, c.lines.invariant.so_far, c.lines.invariant.inside, c.line_count-count.ensures.value, c.lines-test.false)
