-- What is said so far and the text of the rest are that of all lines.
use Rattle.std.proofs.Common.{◌+◌, ◌-◌, ◌≤◌}
use Rattle.std.specs.List.{flat_map, range_with_len}
use Rattle.text_parts.proofs.Promises.{IsLeft}
use Rattle.pair_words.specs.ColumnLines.{line_text}
use Rattle.pair_words.proofs.column_lines.say_lines.Given as goal

abbrev pub invariant-lines : goal.invariant-lines
invariant-lines g l = record {
  up : l.fold.first ≤ l.at;
  left : IsLeft g.S.TextSink.says l.initial.out (flat_map (line_text l.shown l.with_letters l.fold.columns.now) (range_with_len l.at (l.fold.first + l.fold.count - l.at)))
      (flat_map (line_text l.shown l.with_letters l.fold.columns.now) (range_with_len l.fold.first l.fold.count)) l.out;
}
