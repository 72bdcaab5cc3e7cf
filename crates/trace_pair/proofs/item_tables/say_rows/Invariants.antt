-- What is said so far and the text of the rest are that of all rows.
use Rattle.std.proofs.Common.{◌≤◌, length, drop}
use Rattle.text_parts.proofs.Promises.{IsLeft}
use Rattle.shown_rows.specs.Changes.{changes}
use Rattle.trace_pair.specs.proving.Standings.{at_start, rows_behind}
use Rattle.trace_pair.proofs.item_tables.say_rows.Given as goal

abbrev pub invariant-rows : goal.invariant-rows
invariant-rows g l = record {
  left_small : l.at.left ≤ l.k;
  right_small : l.at.right ≤ l.k;
  changes_small : l.at.changes ≤ l.k;
  blocks_small : l.at.blocks ≤ l.k;
  left : IsLeft g.S.TextSink.says l.initial.out
      (rows_behind l.sessions.left.now l.sessions.right.now (length (changes l.rows)) l.at (drop l.k l.rows))
      (rows_behind l.sessions.left.now l.sessions.right.now (length (changes l.rows)) at_start l.rows) l.out;
}
