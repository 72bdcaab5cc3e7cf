use Rattle.std.proofs.Common.{◌≡◌, ◌≤◌}
use Rattle.byte_columns.specs.Lines.{differing_before}
use Rattle.byte_columns.proofs.column.ByteColumns.differing_behind.Given as goal

abbrev pub invariant-lines : goal.invariant-lines
invariant-lines l = record { up : l.number ≤ l.at; differ : l.behind ≡ differing_before l.self l.at }
