use Rattle.std.proofs.Common.{◌+◌, ◌≤◌, drop}
use Rattle.std.specs.List.{flat_map}
use Rattle.trace_difference.specs.Lines.{line_text, lines_of}
use Rattle.trace_difference.proofs.LineSteps.{rest_text}
use Rattle.text_parts.proofs.Promises.{IsLeft}
use Rattle.trace_difference.proofs.hunk_lines.say_lines.Given as goal

abbrev pub invariant-rows : goal.invariant-rows
invariant-rows g l = record {
  small : l.left_at ≤ l.left_before + l.row-index;
  forward : l.waiting ≤ l.right_at;
  below : l.right_at ≤ l.right_before + l.row-index;
  left : IsLeft g.S.TextSink.says l.initial.out (rest_text l.rules l.left l.right l.left_at l.right_at l.waiting (drop l.row-index l.rows))
      (flat_map line_text (lines_of l.rules l.left l.right l.left_before l.right_before l.rows)) l.out;
}
