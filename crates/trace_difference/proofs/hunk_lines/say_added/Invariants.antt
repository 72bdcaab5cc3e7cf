use Rattle.std.proofs.Common.{◌-◌, ◌≤◌}
use Rattle.std.specs.List.{flat_map}
use Rattle.trace_difference.specs.Lines.{line_text}
use Rattle.trace_difference.specs.proving.Waiting.{added_lines}
use Rattle.trace_difference.proofs.hunk_lines.say_added.Given as goal

abbrev pub invariant-added : goal.invariant-added
invariant-added g l = record {
  forward : l.from ≤ l.place;
  said : g.S.TextSink.says l.initial.out (flat_map line_text (added_lines l.rules l.items l.from (l.place - l.from))) l.out;
}
