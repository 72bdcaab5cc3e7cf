-- What is said so far and the text of the rest are that of all stretches, and the lines of the rest are there.
use Rattle.std.specs.List.{flat_map}
use Rattle.text_parts.proofs.Promises.{IsLeft}
use Rattle.byte_columns.specs.Laws.{AreOfOneKind}
use Rattle.byte_columns.specs.Lines.{stretches}
use Rattle.pair_words.specs.ColumnLines.{stretch_text}
use Rattle.pair_words.proofs.column_lines.say_stretches.Given as goal

abbrev pub invariant-lines : goal.invariant-lines
invariant-lines g l = record {
  kinds : AreOfOneKind l.columns l.stretch-iterator;
  left : IsLeft g.S.TextSink.says l.initial.out (flat_map (stretch_text l.shown l.with_letters l.columns) l.stretch-iterator)
      (flat_map (stretch_text l.shown l.with_letters l.columns) (stretches l.columns)) l.out;
}
