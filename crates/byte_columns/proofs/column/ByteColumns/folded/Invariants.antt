use Rattle.std.proofs.Common.{◌≡◌, ◌+◌, ◌-◌, ◌≤◌}
use Rattle.byte_columns.specs.Lines.{differing_before, folded_from, line_count}
use Rattle.byte_columns.proofs.column.ByteColumns.folded.Given as goal

abbrev pub invariant-lines : goal.invariant-lines
invariant-lines l = record {
  up : l.number ≤ l.at;
  inside : l.at ≤ line_count l.self;
  differ : l.differ ≡ differing_before l.self l.at;
  so_far : (l.at - l.number) + folded_from l.self l.at (line_count l.self - l.at) ≡ folded_from l.self l.number (line_count l.self - l.number);
}
