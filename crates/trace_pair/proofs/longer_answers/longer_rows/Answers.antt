-- Each row adds its answers, where both were waited for.
use Rattle.std.proofs.Common.{◌≡◌, ◌+◌, List, [], drop, get_or, ap, sym, ◌∙◌, arith}
use Rattle.std.proofs.lemmas.List.{drop_all, drop_more}
use Rattle.slow_answers.specs.Longer.{longer_behind}
use Rattle.slow_answers.specs.declared.longer.LongerAnswers.{LongerAnswers}
use Rattle.slow_answers.proofs.Promises.{longer_are_found_one_by_one}
use Rattle.uds_difference.specs.declared.row.Row.{Row}
use Rattle.uds_difference.specs.declared.row.Row.TheVariants.{Same}
use Rattle.pair_words.specs.declared.log.PairLog.TheVariants.{A, B}
use Rattle.trace_pair.specs.Counterparts.{row_behind}
use Rattle.trace_pair.specs.LongerAnswers.{answers_beside, answers_by}
use Rattle.trace_pair.proofs.LongerWalk.{one-more}
use Rattle.trace_pair.proofs.longer_answers.longer_rows.Goals as goal

pub rows-init : goal.rows-init
rows-init c =
    let one = c.args.sessions.left.now in
    let other = c.args.sessions.right.now in
    let rows = c.args.rows.now in
    let none = c.none-found.ensures in
    let left_count = ap (λ (found : LongerAnswers). found.count) none.left in
    let right_count = ap (λ (found : LongerAnswers). found.count) none.right in
    record {
      left_small = omega arith;
      right_small = omega arith;
      few_left = omega (arith, left_count);
      few_right = omega (arith, right_count);
      of_left = ap (λ (found : LongerAnswers). longer_behind found (answers_beside A one other 0 0 rows)) none.left
          ∙ longer_are_found_one_by_one (answers_beside A one other 0 0 rows);
      of_right = ap (λ (found : LongerAnswers). longer_behind found (answers_beside B one other 0 0 rows)) none.right
          ∙ longer_are_found_one_by_one (answers_beside B one other 0 0 rows);
    }

pub rows-preserved : goal.rows-preserved
rows-preserved c =
    let one = c.args.sessions.left.now in
    let other = c.args.sessions.right.now in
    let rows = c.args.rows.now in
    let k = c.rows.k in
    let inv = c.rows.invariant in
    let more = c.with-found.ensures in
    let row = get_or rows k Same in
    let place = row_behind c.rows.left c.rows.right row in
    let first = drop_more rows k Same c.rows-test.true in
    let left_is = more.left ∙ ap (λ times. longer_behind c.rows.found.left (answers_by A place times)) c.times_at.ensures in
    let right_is = more.right ∙ ap (λ times. longer_behind c.rows.found.right (answers_by B place times)) c.times_at.ensures in
    record {
      left_small = omega (arith, inv.left_small, c.left_in-left.ensures.one);
      right_small = omega (arith, inv.right_small, c.right_in-right.ensures.one);
      few_left = omega (arith, inv.few_left, more.few_left);
      few_right = omega (arith, inv.few_right, more.few_right);
      of_left = one-more A one other c.rows.found.left c.with-found.result.left c.rows.left c.rows.right c.left_in-left.result c.right_in-right.result
          row (drop k rows) (drop (k + 1) rows) first left_is c.left_in-left.ensures.value c.right_in-right.ensures.value ∙ inv.of_left;
      of_right = one-more B one other c.rows.found.right c.with-found.result.right c.rows.left c.rows.right c.left_in-left.result c.right_in-right.result
          row (drop k rows) (drop (k + 1) rows) first right_is c.left_in-left.ensures.value c.right_in-right.ensures.value ∙ inv.of_right;
    }

pub returns : goal.returns
returns c =
    let one = c.args.sessions.left.now in
    let other = c.args.sessions.right.now in
    let inv = c.rows.invariant in
    let none = drop_all c.rows.k c.args.rows.now c.rows-test.false in
    record {
      left = sym (ap (λ (l : List Row). longer_behind c.rows.found.left (answers_beside A one other c.rows.left c.rows.right l)) none) ∙ inv.of_left;
      right = sym (ap (λ (l : List Row). longer_behind c.rows.found.right (answers_beside B one other c.rows.left c.rows.right l)) none) ∙ inv.of_right;
    }
