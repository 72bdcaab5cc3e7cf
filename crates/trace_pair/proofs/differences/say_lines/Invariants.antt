-- What is said so far and the lines of the rest are those of all that are listed.
use Rattle.std.proofs.Common.{◌≤◌, ◌+◌, ◌-◌, drop, take}
use Rattle.shown_rows.specs.Changes.{changes, changes_from}
use Rattle.text_parts.proofs.Promises.{IsLeft}
use Rattle.trace_pair.specs.Differences.{difference_lines}
use Rattle.trace_pair.proofs.differences.say_lines.Given as goal

abbrev pub invariant-rows : goal.invariant-rows
invariant-rows g l = record {
  left_small : l.i ≤ l.k;
  right_small : l.j ≤ l.k;
  few : l.number ≤ l.k + 1;
  left : IsLeft g.S.TextSink.says l.initial.out
      (difference_lines l.sessions.left.now l.sessions.right.now l.listed l.number (take (l.listed + 1 - l.number) (changes_from l.front l.i l.j (drop l.k l.rows))))
      (difference_lines l.sessions.left.now l.sessions.right.now l.listed 1 (take l.listed (changes l.rows))) l.out;
}
