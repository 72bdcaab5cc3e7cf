-- What is known so far, and the rest of the rows, are what is known of all rows.
use Rattle.std.proofs.Common.{◌≡◌, ◌≤◌, drop}
use Rattle.slow_answers.specs.Longer.{longer_behind}
use Rattle.pair_words.specs.declared.log.PairLog.TheVariants.{A, B}
use Rattle.trace_pair.specs.LongerAnswers.{answers_beside, longer_in}
use Rattle.trace_pair.proofs.longer_answers.longer_rows.Given as goal

abbrev pub invariant-rows : goal.invariant-rows
invariant-rows l = record {
  left_small : l.left ≤ l.k;
  right_small : l.right ≤ l.k;
  few_left : l.found.left.count ≤ l.k;
  few_right : l.found.right.count ≤ l.k;
  of_left : longer_behind l.found.left (answers_beside A l.sessions.left.now l.sessions.right.now l.left l.right (drop l.k l.rows))
      ≡ longer_in A l.sessions.left.now l.sessions.right.now l.rows;
  of_right : longer_behind l.found.right (answers_beside B l.sessions.left.now l.sessions.right.now l.left l.right (drop l.k l.rows))
      ≡ longer_in B l.sessions.left.now l.sessions.right.now l.rows;
}
