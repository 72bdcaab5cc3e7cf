-- What counts so far and the rest are all that count.
use Rattle.std.proofs.Common.{◌≡◌, ◌+◌, ◌-◌, ◌≤◌, length, take, drop}
use Rattle.byte_columns.specs.Columns.{differing}
use Rattle.pair_words.specs.ColumnLines.{counted}
use Rattle.pair_words.proofs.column_counts.counts_between.Given as goal

abbrev pub invariant-columns : goal.invariant-columns
invariant-columns l = record {
  few : l.all ≤ l.at - l.from;
  fewer : l.differing ≤ l.at - l.from;
  all : l.all + length (counted l.shown (take (l.to - l.at) (drop l.at l.columns))) ≡ length (counted l.shown (take (l.to - l.from) (drop l.from l.columns)));
  differ : l.differing + differing (counted l.shown (take (l.to - l.at) (drop l.at l.columns)))
      ≡ differing (counted l.shown (take (l.to - l.from) (drop l.from l.columns)));
}
