use Rattle.std.proofs.Common.{◌≤◌, drop}
use Rattle.std.specs.List.{flat_map}
use Rattle.shown_rows.specs.Hunks.{hunks}
use Rattle.trace_difference.specs.Unified.{hunk_text}
use Rattle.trace_difference.proofs.HunkSteps.{hunks_left}
use Rattle.text_parts.proofs.Promises.{IsLeft}
use Rattle.trace_difference.proofs.unified_text.say_hunks.Given as goal

abbrev pub invariant-rows : goal.invariant-rows
invariant-rows g l = record {
  left_small : l.left_before ≤ l.k;
  right_small : l.right_before ≤ l.k;
  left : IsLeft g.S.TextSink.says l.initial.out (hunks_left (hunk_text l.rules l.left l.right) l.shown l.left_before l.right_before (drop l.k l.rows))
      (flat_map (hunk_text l.rules l.left l.right) (hunks l.rows)) l.out;
}
