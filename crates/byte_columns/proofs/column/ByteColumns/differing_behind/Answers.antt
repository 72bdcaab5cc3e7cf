use Rattle.std.proofs.Common.{◌≡◌, ◌+◌, ap, arith, ◌∙◌}
use Rattle.std.proofs.lemmas.Bool.{le-ltb, lt-ltb}
use Rattle.byte_columns.specs.Lines.{differing_before, line_differs}
use Rattle.byte_columns.proofs.Counting.{one_if}
use Rattle.byte_columns.proofs.LinePlaces.{before-few, before-next, lines-few}
use Rattle.byte_columns.proofs.column.ByteColumns.differing_behind.Goals as goal
use Rattle.byte_columns.proofs.column.ByteColumns.differing_behind.Goals.{then-differing_in-gt0, else-differing_in-gt0}

pub overflow_add-at-end : goal.overflow_add-at-end
overflow_add-at-end c = let all = lines-few c.args.self.now in omega (arith, c.requires.inside, all)

pub overflow_add-behind : goal.overflow_add-behind
overflow_add-behind c =
    let few = before-few c.args.self.now c.lines.at in
    let all = lines-few c.args.self.now in
    omega (arith, c.lines.invariant.differ, c.requires.inside, c.lines-test.true, few, all)

pub lines-preserved : goal.lines-preserved
lines-preserved c =
    let inv = c.lines.invariant in
    let columns = c.args.self.now in
    let next = before-next columns c.lines.at in
    elim c.if-differing_in-gt0.branch [
      | then-differing_in-gt0 w ↦
          let one : one_if (line_differs columns c.lines.at) ≡ 1 = ap one_if (lt-ltb 0 _ (omega (arith, c.differing_in.ensures.value, w.if-differing_in-gt0.true))) in
          record { up = omega (arith, inv.up); differ = omega (arith, inv.differ, next, one) }
      | else-differing_in-gt0 w ↦
          let none : one_if (line_differs columns c.lines.at) ≡ 0 = ap one_if (le-ltb 0 _ (omega (arith, c.differing_in.ensures.value, w.if-differing_in-gt0.false))) in
          record { up = omega (arith, inv.up); differ = omega (arith, inv.differ, next, none) }
    ]

pub returns : goal.returns
returns c =
    let end : c.lines.at ≡ c.args.number + c.args.count = omega (arith, c.lines.invariant.up, c.lines-test.false) in
    c.lines.invariant.differ ∙ ap (differing_before c.args.self.now) end
