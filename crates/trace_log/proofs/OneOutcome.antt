-- A log has one outcome.
use Rattle.std.proofs.Common.{◌≡◌, ℕ, ◌<◌, List, length, arith, refl, ap, sym, subst, ◌∙◌, Option, Some, Result, Ok, Err}
use Rattle.can_log.specs.declared.frame.Stamped.{Stamped}
use Rattle.can_log.proofs.Promises.{log_means_at_most_one, refused_place_is_one}
use Rattle.trace_log.specs.declared.summary.Summary.{Summary}
use Rattle.trace_log.specs.Settings.{Settings}
use Rattle.trace_log.specs.CanonicalLog.{canonical_log_of_lines}
use Rattle.trace_log.specs.Summing.{summary_of}
use Rattle.trace_log.specs.Refusal.{Refusal, bad_line, oversize_message, long_log, long_canonical_log, oversize, IsBadLine, IsOversizeLine, IsNotRefused}
use Rattle.trace_log.specs.Outcome.{Accepted, IsReadWhole, IsAcceptedAs, IsOutcome}
use Rattle.trace_log.specs.Laws.{OutcomeIsOne}
use Rattle.trace_log.proofs.Refusals.{bad_line_alone, legal_is_not_refused, oversize_is_one}

-- a log that is read whole is not refused
whole_is_not_refused : (limit : ℕ) (settings : Settings) (log : List ℕ) (meanings : List (Option Stamped)) → IsReadWhole limit settings log meanings
    → IsNotRefused limit settings log
whole_is_not_refused limit settings log meanings read = legal_is_not_refused limit settings log meanings read.means read.within

same_oversize : (limit : ℕ) (settings : Settings) (log : List ℕ) (line other announced other_announced : ℕ)
    → IsOversizeLine limit settings log line announced → IsOversizeLine limit settings log other other_announced
    → oversize_message line announced ≡ oversize_message other other_announced
same_oversize limit settings log line other announced other_announced one two =
    let same = oversize_is_one limit settings log line other announced other_announced one two in
    let long = ap length same.lines_are in
    let one_at = one.found.at in
    let two_at = two.found.at in
    let line_is : line ≡ other = omega arith in
    let both : Some announced ≡ Some other_announced = sym one.found.announces ∙ ap (oversize limit settings) same.what_is ∙ two.found.announces in
    let announced_is : announced ≡ other_announced = cc in
    ap (λ l. oversize_message l announced) line_is ∙ ap (oversize_message other) announced_is

-- where the log is refused at a place
bad_is : (limit : ℕ) (settings : Settings) (log : List ℕ) (line column : ℕ) (result : Result Accepted Refusal) → IsBadLine limit settings log line column
    → IsOutcome limit settings log result → result ≡ Err (bad_line line column)
bad_is limit settings log line column (Ok accepted) bad is =
    absurd ((whole_is_not_refused limit settings log is.0 is.1).no_bad_line line column bad)
bad_is limit settings log line column (Err (bad_line other_line other_column)) bad is =
    let same = refused_place_is_one log other_line other_column line column is.found.place bad.found.place in
    ap (λ l. Err (bad_line l other_column)) same.0 ∙ ap (λ c. Err (bad_line line c)) same.1
bad_is limit settings log line column (Err (oversize_message other announced)) bad is =
    absurd (bad_line_alone limit settings log line column other announced bad is)
bad_is limit settings log line column (Err long_log) bad is = absurd (is.0.no_bad_line line column bad)
bad_is limit settings log line column (Err long_canonical_log) bad is =
    absurd ((whole_is_not_refused limit settings log is.0 is.1).no_bad_line line column bad)

-- where a line announces too much
oversize_is : (limit : ℕ) (settings : Settings) (log : List ℕ) (line announced : ℕ) (result : Result Accepted Refusal)
    → IsOversizeLine limit settings log line announced → IsOutcome limit settings log result → result ≡ Err (oversize_message line announced)
oversize_is limit settings log line announced (Ok accepted) over is =
    absurd ((whole_is_not_refused limit settings log is.0 is.1).no_oversize line announced over)
oversize_is limit settings log line announced (Err (bad_line other column)) over is =
    absurd (bad_line_alone limit settings log other column line announced is over)
oversize_is limit settings log line announced (Err (oversize_message other other_announced)) over is =
    ap Err (same_oversize limit settings log other line other_announced announced is over)
oversize_is limit settings log line announced (Err long_log) over is = absurd (is.0.no_oversize line announced over)
oversize_is limit settings log line announced (Err long_canonical_log) over is =
    absurd ((whole_is_not_refused limit settings log is.0 is.1).no_oversize line announced over)

-- where nothing refuses it and it is longer than the limit
limit_is : (limit : ℕ) (settings : Settings) (log : List ℕ) (result : Result Accepted Refusal) → IsNotRefused limit settings log
    → settings.max_bytes < length log → IsOutcome limit settings log result → result ≡ Err long_log
limit_is limit settings log (Ok accepted) not_refused long is = let short = is.1.short in absurd (omega arith)
limit_is limit settings log (Err (bad_line line column)) not_refused long is = absurd (not_refused.no_bad_line line column is)
limit_is limit settings log (Err (oversize_message line announced)) not_refused long is = absurd (not_refused.no_oversize line announced is)
limit_is limit settings log (Err long_log) not_refused long is = refl
limit_is limit settings log (Err long_canonical_log) not_refused long is = let short = is.1.short in absurd (omega arith)

-- where it is read whole and its canonical log is longer than the limit
over_is : (limit : ℕ) (settings : Settings) (log : List ℕ) (meanings : List (Option Stamped)) (result : Result Accepted Refusal)
    → IsReadWhole limit settings log meanings → settings.max_bytes < length (canonical_log_of_lines limit settings meanings)
    → IsOutcome limit settings log result → result ≡ Err long_canonical_log
over_is limit settings log meanings (Ok accepted) read over is =
    let same = log_means_at_most_one log is.0 meanings is.1.means read.means in
    let text = ap length (is.2.spelled ∙ ap (canonical_log_of_lines limit settings) same) in
    let fits = is.2.fits in
    absurd (omega arith)
over_is limit settings log meanings (Err (bad_line line column)) read over is =
    absurd ((whole_is_not_refused limit settings log meanings read).no_bad_line line column is)
over_is limit settings log meanings (Err (oversize_message line announced)) read over is =
    absurd ((whole_is_not_refused limit settings log meanings read).no_oversize line announced is)
over_is limit settings log meanings (Err long_log) read over is = let short = read.short in let long = is.1 in absurd (omega arith)
over_is limit settings log meanings (Err long_canonical_log) read over is = refl

-- what is accepted with lines that mean this
pub accepted_as : (limit : ℕ) (settings : Settings) (log : List ℕ) (meanings : List (Option Stamped)) (accepted : Accepted) → IsAcceptedAs limit settings log meanings accepted
    → accepted ≡ record { text = canonical_log_of_lines limit settings meanings; summary = summary_of limit settings log meanings }
accepted_as limit settings log meanings accepted is =
    ap (λ (x : List ℕ). record { text = x; summary = accepted.summary }) is.spelled
    ∙ ap (λ (x : Summary). record { text = canonical_log_of_lines limit settings meanings; summary = x }) is.counted

-- where it is accepted
ok_is : (limit : ℕ) (settings : Settings) (log : List ℕ) (accepted : Accepted) (result : Result Accepted Refusal)
    → IsOutcome limit settings log (Ok accepted) → IsOutcome limit settings log result → result ≡ Ok accepted
ok_is limit settings log accepted (Ok other) one is =
    let same = log_means_at_most_one log one.0 is.0 one.1.means is.1.means in
    let as_one = subst (λ w. IsAcceptedAs limit settings log w accepted) same one.2 in
    ap Ok (accepted_as limit settings log is.0 other is.2 ∙ sym (accepted_as limit settings log is.0 accepted as_one))
ok_is limit settings log accepted (Err (bad_line line column)) one is =
    absurd ((whole_is_not_refused limit settings log one.0 one.1).no_bad_line line column is)
ok_is limit settings log accepted (Err (oversize_message line announced)) one is =
    absurd ((whole_is_not_refused limit settings log one.0 one.1).no_oversize line announced is)
ok_is limit settings log accepted (Err long_log) one is = let short = one.1.short in let long = is.1 in absurd (omega arith)
ok_is limit settings log accepted (Err long_canonical_log) one is =
    let same = log_means_at_most_one log one.0 is.0 one.1.means is.1.means in
    let text = ap length (one.2.spelled ∙ ap (canonical_log_of_lines limit settings) same) in
    let fits = one.2.fits in
    let over = is.2 in
    absurd (omega arith)

pub outcome_is_one : OutcomeIsOne
outcome_is_one limit settings log (Err (bad_line line column)) other is second = sym (bad_is limit settings log line column other is second)
outcome_is_one limit settings log (Err (oversize_message line announced)) other is second = sym (oversize_is limit settings log line announced other is second)
outcome_is_one limit settings log (Err long_log) other is second = sym (limit_is limit settings log other is.0 is.1 second)
outcome_is_one limit settings log (Err long_canonical_log) other is second = sym (over_is limit settings log is.0 other is.1 is.2 second)
outcome_is_one limit settings log (Ok accepted) other is second = sym (ok_is limit settings log accepted other is second)
