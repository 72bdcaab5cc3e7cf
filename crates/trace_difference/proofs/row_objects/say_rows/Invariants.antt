use Rattle.std.proofs.Common.{◌≤◌, false, drop}
use Rattle.trace_difference.specs.Objects.{rows_text}
use Rattle.text_parts.proofs.Promises.{IsLeft}
use Rattle.trace_difference.proofs.row_objects.say_rows.Given as goal

abbrev pub invariant-rows : goal.invariant-rows
invariant-rows g l = record {
  few : l.change_number ≤ l.row-index;
  left_small : l.left_before ≤ l.row-index;
  right_small : l.right_before ≤ l.row-index;
  left : IsLeft g.S.TextSink.says l.initial.out (rows_text l.rules l.left l.right l.change_number l.behind_change l.left_before l.right_before (drop l.row-index l.rows))
      (rows_text l.rules l.left l.right 0 false 0 0 l.rows) l.out;
}
