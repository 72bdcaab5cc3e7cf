-- Where no announced length refuses a log, there is one thing that it is read as.
use Rattle.std.proofs.Common.{◌≡◌, ℕ, ◌+◌, List, [], ◌∷◌, length, arith, refl, ap, sym, ◌∙◌, Option, Result, Ok, Err, inl, inr}
use Rattle.std.proofs.lemmas.Bool.{cases_lt}
use Rattle.can_log.specs.Log.{ended_lines}
use Rattle.can_log.specs.declared.frame.Stamped.{Stamped}
use Rattle.can_log.proofs.Promises.{log_is_legal_or_refused, log_means_at_most_one, refused_place_is_one, refused_log_has_no_meanings}
use Rattle.trace_log.specs.Settings.{Settings}
use Rattle.trace_log.specs.Refusal.{EachPasses}
use Rattle.trace_log.specs.ReadAs.{Unreadable, no_line, too_long, takes_all, IsReadAs}
use Rattle.trace_log.specs.Laws.{ReadingIsThere, ReadingIsOne}
use Rattle.trace_log.proofs.SomeOutcome.{counts_or_not, counts_not, same_place}

pub all_taken : (meanings : List (Option Stamped)) → EachPasses takes_all meanings
all_taken [] = tt
all_taken (what ∷ meanings) = (refl, all_taken meanings)

pub reading_is_there : ReadingIsThere
reading_is_there settings log = elim (log_is_legal_or_refused log) [
  | inl legal ↦ elim (cases_lt settings.max_bytes (length log)) [
    | inr short ↦ (Ok legal.0, (short, legal.1))
    | inl long ↦ (Err too_long, (λ line column bad. refused_log_has_no_meanings log line column legal.0 bad.place legal.1, long))
  ]
  | inr refused ↦ elim (counts_or_not (length (ended_lines refused.2.lines) + refused.1) settings log) [
    | inl counts ↦ (Err (no_line refused.0 refused.1), record { place = refused.2; counts = counts })
    | inr none ↦ (
      Err too_long,
      (
        λ line column bad.
            counts_not (length (ended_lines refused.2.lines) + refused.1) (length (ended_lines bad.place.lines) + column) settings log none
            (same_place log refused.0 refused.1 line column refused.2 bad.place) bad.counts,
        none.long,
      ),
    )
  ]
]

ok_reading : (settings : Settings) (log : List ℕ) (meanings : List (Option Stamped)) (other : Result (List (Option Stamped)) Unreadable)
    → IsReadAs settings log (Ok meanings) → IsReadAs settings log other → other ≡ Ok meanings
ok_reading settings log meanings (Ok others) is too = ap Ok (log_means_at_most_one log others meanings too.1 is.1)
ok_reading settings log meanings (Err (no_line line column)) is too = absurd (refused_log_has_no_meanings log line column meanings too.place is.1)
ok_reading settings log meanings (Err too_long) is too = let short = is.0 in let long = too.1 in absurd (omega arith)

bad_reading : (settings : Settings) (log : List ℕ) (line column : ℕ) (other : Result (List (Option Stamped)) Unreadable)
    → IsReadAs settings log (Err (no_line line column)) → IsReadAs settings log other → other ≡ Err (no_line line column)
bad_reading settings log line column (Ok meanings) is too = absurd (refused_log_has_no_meanings log line column meanings is.place too.1)
bad_reading settings log line column (Err (no_line other_line other_column)) is too =
    let same = refused_place_is_one log other_line other_column line column too.place is.place in
    ap (λ l. Err (no_line l other_column)) same.0 ∙ ap (λ c. Err (no_line line c)) same.1
bad_reading settings log line column (Err too_long) is too = absurd (too.0 line column is)

limit_reading : (settings : Settings) (log : List ℕ) (other : Result (List (Option Stamped)) Unreadable)
    → IsReadAs settings log (Err too_long) → IsReadAs settings log other → other ≡ Err too_long
limit_reading settings log (Ok meanings) is too = let short = too.0 in let long = is.1 in absurd (omega arith)
limit_reading settings log (Err (no_line line column)) is too = absurd (is.0 line column too)
limit_reading settings log (Err too_long) is too = refl

pub reading_is_one : ReadingIsOne
reading_is_one settings log (Ok meanings) other is too = sym (ok_reading settings log meanings other is too)
reading_is_one settings log (Err (no_line line column)) other is too = sym (bad_reading settings log line column other is too)
reading_is_one settings log (Err too_long) other is too = sym (limit_reading settings log other is too)
