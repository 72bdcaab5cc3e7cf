-- What is known of the answers of rows beside each other, one row after another.
use Rattle.std.proofs.Common.{◌≡◌, ℕ, ◌+◌, List, [], ◌∷◌, ◌++◌, ap, sym, ◌∙◌, refl}
use Rattle.slow_answers.specs.Longer.{longer_behind, longer_with}
use Rattle.slow_answers.specs.declared.longer.AnswerBeside.{AnswerBeside}
use Rattle.slow_answers.specs.declared.longer.LongerAnswers.{LongerAnswers}
use Rattle.uds_difference.specs.declared.row.Row.{Row}
use Rattle.shown_rows.specs.Rows.{left_in, right_in}
use Rattle.trace_report.specs.Session.{SessionValue}
use Rattle.pair_words.specs.declared.log.PairLog.{PairLog}
use Rattle.trace_pair.specs.Counterparts.{row_behind}
use Rattle.trace_pair.specs.LongerAnswers.{answers_at, answers_beside}

behind-append : (found : LongerAnswers) (front later : List AnswerBeside) → longer_behind found (front ++ later) ≡ longer_behind (longer_behind found front) later
behind-append found [] later = refl
behind-append found (answer ∷ front) later = behind-append (longer_with found answer) front later

module _ (log : PairLog) (left right : SessionValue) where
  -- what is known behind one row more, and of the rows behind that, is what is known of the rows from that one on
  pub one-more : (found now : LongerAnswers) (i j a b : ℕ) (row : Row) (rows later : List Row) → rows ≡ row ∷ later
      → now ≡ longer_behind found (answers_at log left right (row_behind i j row)) → a ≡ left_in row → b ≡ right_in row
      → longer_behind now (answers_beside log left right (i + a) (j + b) later) ≡ longer_behind found (answers_beside log left right i j rows)
  one-more found now i j a b row rows later first is left_is right_is =
      let here = answers_at log left right (row_behind i j row) in
      let rest = answers_beside log left right (i + left_in row) (j + right_in row) later in
      let moved : longer_behind now (answers_beside log left right (i + a) (j + b) later) ≡ longer_behind (longer_behind found here) rest =
      (λ k. longer_behind (is k) (answers_beside log left right (i + left_is k) (j + right_is k) later)) in
      moved ∙ sym (behind-append found here rest) ∙ sym (ap (λ (l : List Row). longer_behind found (answers_beside log left right i j l)) first)
