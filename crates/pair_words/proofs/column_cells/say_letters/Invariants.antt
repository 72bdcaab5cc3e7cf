-- What is said so far and the letters of the rest are those of all columns.
use Rattle.std.proofs.Common.{◌-◌, take, drop}
use Rattle.text_parts.proofs.Promises.{IsLeft}
use Rattle.pair_words.specs.ColumnLines.{column_letters}
use Rattle.pair_words.proofs.column_cells.say_letters.Given as goal

abbrev pub invariant-columns : goal.invariant-columns
invariant-columns g l =
    IsLeft g.S.TextSink.says l.initial.out (column_letters l.own.log (take (l.own.to - l.at) (drop l.at l.own.columns.now)))
    (column_letters l.own.log (take (l.own.to - l.own.from) (drop l.own.from l.own.columns.now))) l.out
