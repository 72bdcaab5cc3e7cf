-- What refuses a log is the first thing that can: told by line numbers alone.
use Rattle.std.proofs.Common.{◌≡◌, ℕ, ◌+◌, ◌<◌, ◌≤◌, Bool, true, List, [], ◌∷◌, ◌++◌, length, arith, refl, ap, sym, subst, ◌∙◌, Option, Some, inl, inr}
use Rattle.std.proofs.Common.{append_assoc, length-append}
use Rattle.std.proofs.lemmas.Bool.{cases_lt}
use Rattle.can_log.specs.Line.{LineMeans}
use Rattle.can_log.specs.Log.{log_lines, LinesMean, ended_lines, IsRefusedIn}
use Rattle.can_log.specs.declared.frame.Stamped.{Stamped}
use Rattle.can_log.proofs.Promises.{line_means_at_most_one, log_is_legal_or_refused, lines_mean_as_many, lines_mean_in_parts, refused_lines, refused_line_is_no_line}
use Rattle.trace_log.specs.Settings.{Settings}
use Rattle.trace_log.specs.Refusal.{oversize, announces_within, EachPasses, EachWithin, Counts, CountsAsBad, IsBadLine, CountsAsOversize, IsOversizeLine}
use Rattle.trace_log.specs.Laws.{BadLineIsLowest, OversizeIsLowest}
use Rattle.trace_log.proofs.LogLines.{length-ended_lines}
use Rattle.trace_log.proofs.Refusals.{refused_behind, announcing_fails, failing_announces}
use Rattle.trace_log.proofs.ScannedLogs.{splits}
use Rattle.trace_log.proofs.SomeOutcome.{FailsFirst, all_or_first}

-- the test passes on each of the lines
passes_at : (passes : Option Stamped → Bool) (all : List (List ℕ)) (meant : List (Option Stamped)) (before : List (List ℕ)) (text : List ℕ) (later : List (List ℕ))
    (what : Option Stamped) → LinesMean all meant → EachPasses passes meant → all ≡ before ++ text ∷ later → LineMeans text what → passes what ≡ true
passes_at passes [] meant [] text later what means each parts is = absurd (cc)
passes_at passes [] meant (line ∷ before) text later what means each parts is = absurd (cc)
passes_at passes (first ∷ all) [] before text later what means each parts is = absurd means
passes_at passes (first ∷ all) (one ∷ meant) [] text later what means each parts is =
    let same : first ≡ text = cc in
    let one_is = line_means_at_most_one text one what (subst (λ x. LineMeans x one) same means.0) is in
    subst (λ w. passes w ≡ true) one_is each.0
passes_at passes (first ∷ all) (one ∷ meant) (line ∷ before) text later what means each parts is =
    let rest : all ≡ before ++ text ∷ later = cc in
    passes_at passes all meant before text later what means.1 each.1 rest is

-- no such line announces too much
none_over : (limit : ℕ) (settings : Settings) (all : List (List ℕ)) (meant : List (Option Stamped)) (before : List (List ℕ)) (text : List ℕ)
    (later : List (List ℕ)) (what : Option Stamped) (announced : ℕ) → LinesMean all meant → EachWithin limit settings meant → all ≡ before ++ text ∷ later
    → LineMeans text what → oversize limit settings what ≡ Some announced → ⊥
none_over limit settings all meant before text later what announced means each parts is announces =
    let passed = passes_at (announces_within limit settings) all meant before text later what means each parts is in
    let failed = announcing_fails limit settings what announced announces in
    absurd (cc)

-- ---- a refused place

behind_bad : (limit : ℕ) (settings : Settings) (log : List ℕ) (line column other announced : ℕ) → IsBadLine limit settings log line column
    → CountsAsOversize limit settings log other announced → line < other
behind_bad limit settings log line column other announced bad over = elim (cases_lt (length bad.found.place.lines) (length over.before)) [
  | inl fewer ↦ (let one = bad.found.place.at in let two = over.at in omega arith)
  | inr more ↦
      let both = sym (refused_lines log line column bad.found.place) ∙ over.parts in
      let split = splits bad.found.place.lines (log_lines bad.found.place.rest) over.before (over.text ∷ over.later) both more in
      absurd (inside split.0 split.1 split.2)
]
  where
    inside : (mid : List (List ℕ)) → bad.found.place.lines ≡ over.before ++ mid → over.text ∷ over.later ≡ mid ++ log_lines bad.found.place.rest → ⊥
    inside [] lines_are rest_is = (refused_line_is_no_line bad.found.place.rest column over.text over.later bad.found.place.here (sym rest_is)).0 over.what over.means
    inside (first ∷ mid) lines_are rest_is =
        let same : first ≡ over.text = cc in
        none_over limit settings bad.found.place.lines bad.found.place.meanings over.before over.text mid over.what announced bad.found.place.legal bad.within
        (lines_are ∙ ap (λ x. over.before ++ x ∷ mid) same) over.means over.announces

-- the first line that announces too much counts, where a later one or the refused place after it does
first_counts : (limit : ℕ) (settings : Settings) (log : List ℕ) (lines more : List (List ℕ)) (bytes : ℕ) (found : FailsFirst (announces_within limit settings) lines)
    (announced : ℕ) → oversize limit settings found.what ≡ Some announced → log_lines log ≡ lines ++ more → length (ended_lines lines) ≤ bytes
    → Counts bytes settings log → CountsAsOversize limit settings log (length found.front + 1) announced
first_counts limit settings log lines more bytes found announced is parts few counts = record {
  before = found.front;
  text = found.text;
  what = found.what;
  later = found.later ++ more;
  parts = parts ∙ ap (λ x. x ++ more) found.parts ∙ append_assoc found.front (found.text ∷ found.later) more;
  at = refl;
  means = found.means;
  announces = is;
  counts = counted counts;
}
  where
    counted : Counts bytes settings log
        → Counts (length (ended_lines (found.front ++ found.text ∷ []))) settings log
    counted (inr short) = inr short
    counted (inl within) =
        let all = ap (λ x. length (ended_lines x)) (found.parts ∙ sym (append_assoc found.front (found.text ∷ []) found.later)) in
        let long = length-ended_lines (found.front ++ found.text ∷ []) found.later in
        inl (omega arith)

first_is_early : (passes : Option Stamped → Bool) (lines : List (List ℕ)) (found : FailsFirst passes lines) → length found.front < length lines
first_is_early passes lines found =
    let all = ap length found.parts in
    let long = length-append found.front (found.text ∷ found.later) in
    omega arith

bad_is_first : (limit : ℕ) (settings : Settings) (log : List ℕ) (line column : ℕ) (bad : CountsAsBad settings log line column)
    → ((other announced : ℕ) → CountsAsOversize limit settings log other announced → line < other) → IsBadLine limit settings log line column
bad_is_first limit settings log line column bad lowest = record { found = bad; within = within }
  where
    within : EachWithin limit settings bad.place.meanings
    within = elim (all_or_first (announces_within limit settings) bad.place.lines bad.place.meanings bad.place.legal) [
      | inl all ↦ all
      | inr found ↦
          let announced = failing_announces limit settings found.what found.fails in
          let early = first_is_early (announces_within limit settings) bad.place.lines found in
          let over = first_counts limit settings log bad.place.lines (log_lines bad.place.rest) (length (ended_lines bad.place.lines) + column) found announced.0
          announced.1 (refused_lines log line column bad.place) (omega arith) bad.counts in
          let behind = lowest (length found.front + 1) announced.0 over in
          let at = bad.place.at in
          absurd (omega arith)
    ]

pub bad_line_is_lowest : BadLineIsLowest
bad_line_is_lowest limit settings log line column = (
  λ bad. (bad.found, λ other announced over. behind_bad limit settings log line column other announced bad over),
  λ both. bad_is_first limit settings log line column both.0 both.1,
)

-- ---- a line that announces too much

bad_behind_over : (limit : ℕ) (settings : Settings) (log : List ℕ) (line announced other column : ℕ) → IsOversizeLine limit settings log line announced
    → CountsAsBad settings log other column → line < other
bad_behind_over limit settings log line announced other column over bad =
    let parts = sym (refused_lines log other column bad.place) ∙ over.found.parts in
    let begins = refused_behind bad.place.lines bad.place.meanings bad.place.rest column over.found.before over.found.text over.found.later over.meanings over.found.what
    bad.place.legal bad.place.here parts over.legal over.found.means in
    let long = ap length begins.1 ∙ length-append over.meanings (over.found.what ∷ begins.0) in
    let as_many = lines_mean_as_many bad.place.lines bad.place.meanings bad.place.legal in
    let too = lines_mean_as_many over.found.before over.meanings over.legal in
    let one = over.found.at in
    let two = bad.place.at in
    omega arith

over_behind_over : (limit : ℕ) (settings : Settings) (log : List ℕ) (line announced other more : ℕ) → IsOversizeLine limit settings log line announced
    → CountsAsOversize limit settings log other more → line ≤ other
over_behind_over limit settings log line announced other more over too = elim (cases_lt (length too.before) (length over.found.before)) [
  | inr later ↦ (let one = over.found.at in let two = too.at in omega arith)
  | inl fewer ↦
      let split = splits over.found.before (over.found.text ∷ over.found.later) too.before (too.text ∷ too.later) (sym over.found.parts ∙ too.parts) (omega arith) in
      absurd (inside fewer split.0 split.1 split.2)
]
  where
    inside : length too.before < length over.found.before → (mid : List (List ℕ)) → over.found.before ≡ too.before ++ mid → too.text ∷ too.later ≡ mid ++ over.found.text ∷ over.found.later → ⊥
    inside fewer [] lines_are rest_is = let all = ap length lines_are ∙ length-append too.before [] in absurd (omega arith)
    inside fewer (first ∷ mid) lines_are rest_is =
        let same : first ≡ too.text = cc in
        none_over limit settings over.found.before over.meanings too.before too.text mid too.what more over.legal over.within
        (lines_are ∙ ap (λ x. too.before ++ x ∷ mid) same) too.means too.announces

module _ (limit : ℕ) (settings : Settings) (log : List ℕ) (line announced : ℕ) (over : CountsAsOversize limit settings log line announced)
    (no_bad : (other column : ℕ) → CountsAsBad settings log other column → line < other)
    (lowest : (other more : ℕ) → CountsAsOversize limit settings log other more → line ≤ other) where
  lines_long : length (ended_lines (over.before ++ over.text ∷ [])) ≡ length (ended_lines over.before) + length (ended_lines (over.text ∷ []))
  lines_long = length-ended_lines over.before (over.text ∷ [])

  over_is_first : (meanings : List (Option Stamped)) → LinesMean over.before meanings → IsOversizeLine limit settings log line announced
  over_is_first meanings legal = record { found = over; meanings = meanings; legal = legal; within = within }
    where
      within : EachWithin limit settings meanings
      within = elim (all_or_first (announces_within limit settings) over.before meanings legal) [
        | inl all ↦ all
        | inr found ↦
            let more = failing_announces limit settings found.what found.fails in
            let early = first_is_early (announces_within limit settings) over.before found in
            let too = first_counts limit settings log over.before (over.text ∷ over.later) (length (ended_lines (over.before ++ over.text ∷ []))) found more.0
            more.1 over.parts (omega (arith, lines_long)) over.counts in
            let behind = lowest (length found.front + 1) more.0 too in
            let at = over.at in
            absurd (omega arith)
      ]

  -- a refused place in a line before it counts
  place_counts : (other column : ℕ) (place : IsRefusedIn log other column) (first : List ℕ) (mid : List (List ℕ)) → over.before ≡ place.lines ++ first ∷ mid
      → column ≤ length first + 1 → Counts (length (ended_lines (over.before ++ over.text ∷ []))) settings log
      → Counts (length (ended_lines place.lines) + column) settings log
  place_counts other column place first mid lines_are few (inr short) = inr short
  place_counts other column place first mid lines_are few (inl within) =
      let all = ap (λ x. length (ended_lines x)) lines_are in
      let long = length-ended_lines place.lines (first ∷ mid) in
      let one = length-append (first ++ 10 ∷ []) (ended_lines mid) in
      let feed = length-append first (10 ∷ []) in
      inl (omega (arith, lines_long))

  where_refused : (other column : ℕ) (place : IsRefusedIn log other column) → IsOversizeLine limit settings log line announced
  where_refused other column place = elim (cases_lt (length over.before) (length place.lines)) [
    | inl fewer ↦
        let split = splits place.lines (log_lines place.rest) over.before (over.text ∷ over.later) both (omega arith) in
        let parts = (lines_mean_in_parts over.before split.0 place.meanings).0 (subst (λ x. LinesMean x place.meanings) split.1 place.legal) in
        over_is_first parts.0 parts.3
    | inr more ↦
        let split = splits over.before (over.text ∷ over.later) place.lines (log_lines place.rest) (sym both) more in
        absurd (inside split.0 split.1 split.2)
  ]
    where
      both : place.lines ++ log_lines place.rest ≡ over.before ++ over.text ∷ over.later
      both = sym (refused_lines log other column place) ∙ over.parts

      inside : (mid : List (List ℕ)) → over.before ≡ place.lines ++ mid → log_lines place.rest ≡ mid ++ over.text ∷ over.later → ⊥
      inside [] lines_are rest_is = (refused_line_is_no_line place.rest column over.text over.later place.here rest_is).0 over.what over.means
      inside (first ∷ mid) lines_are rest_is =
          let few = (refused_line_is_no_line place.rest column first (mid ++ over.text ∷ over.later) place.here rest_is).1 in
          let behind = no_bad other column (record { place = place; counts = place_counts other column place first mid lines_are few over.counts }) in
          let long = ap length lines_are ∙ length-append place.lines (first ∷ mid) in
          let one = over.at in
          let two = place.at in
          absurd (omega arith)

  lowest_is_first : IsOversizeLine limit settings log line announced
  lowest_is_first = elim (log_is_legal_or_refused log) [
    | inl legal ↦
        let parts = (lines_mean_in_parts over.before (over.text ∷ over.later) legal.0).0 (subst (λ x. LinesMean x legal.0) over.parts legal.1) in
        over_is_first parts.0 parts.3
    | inr refused ↦ where_refused refused.0 refused.1 refused.2
  ]

pub oversize_is_lowest : OversizeIsLowest
oversize_is_lowest limit settings log line announced = (
  λ over. (
    over.found,
    λ other column bad. bad_behind_over limit settings log line announced other column over bad,
    λ other more too. over_behind_over limit settings log line announced other more over too,
  ),
  λ all. lowest_is_first limit settings log line announced all.0 all.1 all.2,
)
