-- Each log has an outcome.
use Rattle.std.proofs.Common.{◌≡◌, ℕ, ◌+◌, ◌<◌, Bool, true, false, List, [], ◌∷◌, ◌++◌, length, arith, refl, ap, sym, ◌∙◌, inl, inr, Option, Some, Result, Ok, Err, append_assoc}
use Rattle.std.specs.Prelude.{◌⊎◌}
use Rattle.std.proofs.lemmas.Bool.{cases_lt, cases_Bool}
use Rattle.can_log.specs.Line.{LineMeans}
use Rattle.can_log.specs.Log.{log_lines, LinesMean, LogMeans, ended_lines, IsRefusedIn}
use Rattle.can_log.specs.declared.frame.Stamped.{Stamped}
use Rattle.can_log.proofs.Promises.{log_is_legal_or_refused, refused_place_is_one, refused_lines}
use Rattle.trace_log.specs.Settings.{Settings}
use Rattle.trace_log.specs.CanonicalLog.{canonical_log_of_lines}
use Rattle.trace_log.specs.Summing.{summary_of}
use Rattle.trace_log.specs.Refusal.{Refusal, bad_line, oversize_message, long_log, long_canonical_log, oversize, announces_within, EachPasses, EachWithin, Counts, IsBadLine, IsOversizeLine}
use Rattle.trace_log.specs.Outcome.{Accepted, IsReadWhole, IsOutcome}
use Rattle.trace_log.specs.Laws.{OutcomeIsThere}
use Rattle.trace_log.proofs.Refusals.{refused_behind, fails_within, failing_announces, announcing_fails, legal_is_not_refused, same_line}

-- ---- the first line on which a test fails

-- The test passes on the lines before it, and fails on it.
pub record FailsFirst (passes : Option Stamped → Bool) (lines : List (List ℕ)) : Type 0 where
  pub front : List (List ℕ)
  pub meanings : List (Option Stamped)
  pub text : List ℕ
  pub what : Option Stamped
  pub later : List (List ℕ)
  pub parts : lines ≡ front ++ text ∷ later
  pub legal : LinesMean front meanings
  pub each : EachPasses passes meanings
  pub means : LineMeans text what
  pub fails : passes what ≡ false

one_before : (passes : Option Stamped → Bool) (line : List ℕ) (what : Option Stamped) (lines : List (List ℕ)) → LineMeans line what → passes what ≡ true
    → FailsFirst passes lines → FailsFirst passes (line ∷ lines)
one_before passes line what lines means passed found = record {
  front = line ∷ found.front;
  meanings = what ∷ found.meanings;
  text = found.text;
  what = found.what;
  later = found.later;
  parts = ap (λ x. line ∷ x) found.parts;
  legal = (means, found.legal);
  each = (passed, found.each);
  means = found.means;
  fails = found.fails;
}

-- all pass, or one is the first that fails
pub all_or_first : (passes : Option Stamped → Bool) (lines : List (List ℕ)) (meanings : List (Option Stamped)) → LinesMean lines meanings
    → EachPasses passes meanings ⊎ FailsFirst passes lines
all_or_first passes [] [] means = inl tt
all_or_first passes [] (what ∷ meanings) means = absurd means
all_or_first passes (line ∷ lines) [] means = absurd means
all_or_first passes (line ∷ lines) (what ∷ meanings) means = elim (cases_Bool (passes what)) [
  | inr failed ↦ inr (record { front = []; meanings = []; text = line; what = what; later = lines; parts = refl; legal = tt; each = tt; means = means.0; fails = failed })
  | inl passed ↦ elim (all_or_first passes lines meanings means.1) [
    | inl all ↦ inl (passed, all)
    | inr found ↦ inr (one_before passes line what lines means.0 passed found)
  ]
]

-- ---- its outcome

pub record DoesNotCount (place : ℕ) (settings : Settings) (log : List ℕ) : Type 0 where
  pub behind : settings.max_bytes < place
  pub long : settings.max_bytes < length log

pub counts_or_not : (place : ℕ) (settings : Settings) (log : List ℕ) → Counts place settings log ⊎ DoesNotCount place settings log
counts_or_not place settings log = elim (cases_lt settings.max_bytes place) [
  | inr within ↦ inl (inl within)
  | inl behind ↦ elim (cases_lt settings.max_bytes (length log)) [
    | inr short ↦ inl (inr short)
    | inl long ↦ inr (record { behind = behind; long = long })
  ]
]

pub counts_not : (place other : ℕ) (settings : Settings) (log : List ℕ) → DoesNotCount place settings log → place ≡ other → Counts other settings log → ⊥
counts_not place other settings log none same (inl within) = let behind = none.behind in absurd (omega arith)
counts_not place other settings log none same (inr short) = let long = none.long in absurd (omega arith)

-- where no line announces too much
read_whole : (limit : ℕ) (settings : Settings) (log : List ℕ) (meanings : List (Option Stamped)) → LogMeans log meanings → EachWithin limit settings meanings
    → (result : Result Accepted Refusal) × IsOutcome limit settings log result
read_whole limit settings log meanings means each = elim (cases_lt settings.max_bytes (length log)) [
  | inl long ↦ (Err long_log, (legal_is_not_refused limit settings log meanings means each, long))
  | inr short ↦
      let read : IsReadWhole limit settings log meanings = record { short = short; means = means; within = each } in
      elim (cases_lt settings.max_bytes (length (canonical_log_of_lines limit settings meanings))) [
        | inl over ↦ (Err long_canonical_log, (meanings, read, over))
        | inr fits ↦ (
          Ok (record { text = canonical_log_of_lines limit settings meanings; summary = summary_of limit settings log meanings }),
          (meanings, read, record { spelled = refl; fits = fits; counted = refl }),
        )
      ]
]

-- the line that announces too much, where it counts
oversize_line : (limit : ℕ) (settings : Settings) (log : List ℕ) (found : FailsFirst (announces_within limit settings) (log_lines log)) (announced : ℕ)
    → oversize limit settings found.what ≡ Some announced → Counts (length (ended_lines (found.front ++ found.text ∷ []))) settings log
    → IsOversizeLine limit settings log (length found.front + 1) announced
oversize_line limit settings log found announced is counts = record {
  found = record {
    before = found.front;
    text = found.text;
    what = found.what;
    later = found.later;
    parts = found.parts;
    at = refl;
    means = found.means;
    announces = is;
    counts = counts;
  };
  meanings = found.meanings;
  legal = found.legal;
  within = found.each;
}

-- all such lines are one
same_position : (limit : ℕ) (settings : Settings) (log : List ℕ) (found : FailsFirst (announces_within limit settings) (log_lines log))
    (other announced : ℕ) (over : IsOversizeLine limit settings log other announced)
    → length (ended_lines (found.front ++ found.text ∷ [])) ≡ length (ended_lines (over.found.before ++ over.found.text ∷ []))
same_position limit settings log found other announced over =
    let same = same_line (announces_within limit settings) found.front over.found.before found.text over.found.text found.later over.found.later found.meanings over.meanings
    found.what over.found.what (sym found.parts ∙ over.found.parts) found.legal found.each found.means found.fails
    over.legal over.within over.found.means (announcing_fails limit settings over.found.what announced over.found.announces) in
    ap (λ x. length (ended_lines (x ++ found.text ∷ []))) same.lines_are ∙ ap (λ x. length (ended_lines (over.found.before ++ x ∷ []))) same.text_is

-- where a line announces too much, and no place is refused before it
one_announces : (limit : ℕ) (settings : Settings) (log : List ℕ) → FailsFirst (announces_within limit settings) (log_lines log)
    → ((line column : ℕ) → ¬ IsBadLine limit settings log line column) → (result : Result Accepted Refusal) × IsOutcome limit settings log result
one_announces limit settings log found no_bad_line =
    let announced = failing_announces limit settings found.what found.fails in
    elim (counts_or_not (length (ended_lines (found.front ++ found.text ∷ []))) settings log) [
      | inl counts ↦ (Err (oversize_message (length found.front + 1) announced.0), oversize_line limit settings log found announced.0 announced.1 counts)
      | inr none ↦ (
        Err long_log,
        (
          record {
            no_bad_line = no_bad_line;
            no_oversize = λ other other_announced over.
                counts_not (length (ended_lines (found.front ++ found.text ∷ []))) (length (ended_lines (over.found.before ++ over.found.text ∷ []))) settings log none
                (same_position limit settings log found other other_announced over) over.found.counts;
          },
          none.long,
        ),
      )
    ]

-- a line among the first lines of a log is one of the log
found_in_log : (passes : Option Stamped → Bool) (lines : List (List ℕ)) (all more : List (List ℕ)) → all ≡ lines ++ more → FailsFirst passes lines
    → FailsFirst passes all
found_in_log passes lines all more parts found = record {
  front = found.front;
  meanings = found.meanings;
  text = found.text;
  what = found.what;
  later = found.later ++ more;
  parts = parts ∙ ap (λ x. x ++ more) found.parts ∙ append_assoc found.front (found.text ∷ found.later) more;
  legal = found.legal;
  each = found.each;
  means = found.means;
  fails = found.fails;
}

-- the lines before a refused place are the same ones, however it is shown
same_lines : (one two : List (List ℕ)) (more other : List (List ℕ)) → one ++ more ≡ two ++ other → length one ≡ length two → one ≡ two
same_lines [] [] more other parts long = refl
same_lines [] (line ∷ two) more other parts long = absurd (omega arith)
same_lines (line ∷ one) [] more other parts long = absurd (omega arith)
same_lines (line ∷ one) (first ∷ two) more other parts long =
    let same : line ≡ first = cc in
    let rest : one ++ more ≡ two ++ other = cc in
    ap (λ x. x ∷ one) same ∙ ap (λ x. first ∷ x) (same_lines one two more other rest (omega arith))

pub same_place : (log : List ℕ) (line column other other_column : ℕ) (one : IsRefusedIn log line column) (two : IsRefusedIn log other other_column)
    → length (ended_lines one.lines) + column ≡ length (ended_lines two.lines) + other_column
same_place log line column other other_column one two =
    let same = refused_place_is_one log line column other other_column one two in
    let one_at = one.at in
    let two_at = two.at in
    let line_is = same.0 in
    let column_is = same.1 in
    let lines_are = same_lines one.lines two.lines (log_lines one.rest) (log_lines two.rest)
    (sym (refused_lines log line column one) ∙ refused_lines log other other_column two) (omega arith) in
    let long = ap (λ x. length (ended_lines x)) lines_are in
    omega arith

-- where a place is refused, and no line before it announces too much
one_is_bad : (limit : ℕ) (settings : Settings) (log : List ℕ) (line column : ℕ) (place : IsRefusedIn log line column)
    → EachWithin limit settings place.meanings → (result : Result Accepted Refusal) × IsOutcome limit settings log result
one_is_bad limit settings log line column place each = elim (counts_or_not (length (ended_lines place.lines) + column) settings log) [
  | inl counts ↦ (Err (bad_line line column), record { found = record { place = place; counts = counts }; within = each })
  | inr none ↦ (
    Err long_log,
    (
      record {
        no_bad_line = λ other other_column bad.
            counts_not (length (ended_lines place.lines) + column) (length (ended_lines bad.found.place.lines) + other_column) settings log none
            (same_place log line column other other_column place bad.found.place) bad.found.counts;
        no_oversize = λ other announced over.
            let parts = sym (refused_lines log line column place) ∙ over.found.parts in
            let begins = refused_behind place.lines place.meanings place.rest column over.found.before over.found.text over.found.later over.meanings over.found.what
            place.legal place.here parts over.legal over.found.means in
            fails_within (announces_within limit settings) place.meanings over.meanings over.found.what each begins
            (announcing_fails limit settings over.found.what announced over.found.announces);
      },
      none.long,
    ),
  )
]

-- a place that is refused after a line that announces too much does not refuse the log
bad_behind : (limit : ℕ) (settings : Settings) (log : List ℕ) (found : FailsFirst (announces_within limit settings) (log_lines log))
    → (line column : ℕ) → ¬ IsBadLine limit settings log line column
bad_behind limit settings log found line column bad =
    let parts = sym (refused_lines log line column bad.found.place) ∙ found.parts in
    let begins = refused_behind bad.found.place.lines bad.found.place.meanings bad.found.place.rest column found.front found.text found.later found.meanings found.what
    bad.found.place.legal bad.found.place.here parts found.legal found.means in
    fails_within (announces_within limit settings) bad.found.place.meanings found.meanings found.what bad.within begins found.fails

pub outcome_is_there : OutcomeIsThere
outcome_is_there limit settings log = elim (log_is_legal_or_refused log) [
  | inl legal ↦ elim (all_or_first (announces_within limit settings) (log_lines log) legal.0 legal.1) [
    | inl all ↦ read_whole limit settings log legal.0 legal.1 all
    | inr found ↦ one_announces limit settings log found (bad_behind limit settings log found)
  ]
  | inr refused ↦ elim (all_or_first (announces_within limit settings) refused.2.lines refused.2.meanings refused.2.legal) [
    | inl all ↦ one_is_bad limit settings log refused.0 refused.1 refused.2 all
    | inr found ↦
        let in_log = found_in_log (announces_within limit settings) refused.2.lines (log_lines log) (log_lines refused.2.rest)
        (refused_lines log refused.0 refused.1 refused.2) found in
        one_announces limit settings log in_log (bad_behind limit settings log in_log)
  ]
]
