-- What is said so far and the text of the rest are that of all columns.
use Rattle.std.proofs.Common.{◌-◌, take, drop}
use Rattle.text_parts.proofs.Promises.{IsLeft}
use Rattle.pair_words.specs.ColumnLines.{cells_behind}
use Rattle.pair_words.proofs.column_cells.say_cells_behind.Given as goal

abbrev pub invariant-columns : goal.invariant-columns
invariant-columns g l =
    IsLeft g.S.TextSink.says l.initial.out (cells_behind l.own.log l.marked (take (l.own.to - l.at) (drop l.at l.own.columns.now)))
    (cells_behind l.own.log l.initial.marked (take (l.own.to - l.own.from) (drop l.own.from l.own.columns.now))) l.out
