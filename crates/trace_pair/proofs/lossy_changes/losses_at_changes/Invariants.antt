-- What is counted so far and what the rest tells are that of all changes.
use Rattle.std.proofs.Common.{◌≡◌, ◌≤◌, ◌+◌, length, drop}
use Rattle.std.specs.Prelude.{◌||◌}
use Rattle.std.specs.List.{list_any}
use Rattle.shown_rows.specs.Changes.{changes, changes_from}
use Rattle.pair_words.specs.declared.log.PairLog.TheVariants.{A, B}
use Rattle.trace_pair.specs.Verdict.{is_lossy, lossy_count}
use Rattle.trace_pair.proofs.lossy_changes.losses_at_changes.Given as goal

abbrev pub invariant-rows : goal.invariant-rows
invariant-rows l = record {
  left_small : l.i ≤ l.k;
  right_small : l.j ≤ l.k;
  few : l.line.all ≤ l.k;
  fewer : l.line.lossy ≤ l.line.all;
  lossy : l.line.lossy + lossy_count l.sessions.left.now l.sessions.right.now (changes_from l.front l.i l.j (drop l.k l.rows))
      ≡ lossy_count l.sessions.left.now l.sessions.right.now (changes l.rows);
  all : l.line.all + length (changes_from l.front l.i l.j (drop l.k l.rows)) ≡ length (changes l.rows);
  left : (l.line.left || list_any (is_lossy A l.sessions.left.now) (changes_from l.front l.i l.j (drop l.k l.rows)))
      ≡ list_any (is_lossy A l.sessions.left.now) (changes l.rows);
  right : (l.line.right || list_any (is_lossy B l.sessions.right.now) (changes_from l.front l.i l.j (drop l.k l.rows)))
      ≡ list_any (is_lossy B l.sessions.right.now) (changes l.rows);
}
