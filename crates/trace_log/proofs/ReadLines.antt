-- Which lines of a log were read: there are such lines, they are the same however found, and what a scanner has taken
-- are they.
use Rattle.std.proofs.Common.{◌≡◌, ℕ, ◌<◌, ◌≤◌, Bool, true, false, List, [], ◌∷◌, ◌++◌, length, arith, refl, ap, sym, subst, ◌∙◌, Option, inl, inr}
use Rattle.std.proofs.Common.{append-nil, append_assoc, length-append}
use Rattle.std.specs.Prelude.{◌⊎◌}
use Rattle.std.proofs.lemmas.Bool.{cases_lt, cases_Bool}
use Rattle.can_log.specs.Line.{LineMeans}
use Rattle.can_log.specs.Log.{log_lines, LinesMean, LogMeans, ended_lines, IsRefusedIn}
use Rattle.can_log.specs.Scanning.{Standing}
use Rattle.can_log.specs.WholeLog.{StandsAfter}
use Rattle.can_log.specs.declared.frame.Stamped.{Stamped}
use Rattle.can_log.proofs.Promises.{AllByRecursion-append, line_means_at_most_one, line_or_no_line, completable_has_no_line_feed, lines_have_no_line_feed, log_lines_go_on}
use Rattle.can_log.proofs.Promises.{lines_mean_one_more, refused_lines, refused_line_is_no_line}
use Rattle.trace_log.specs.Refusal.{EachPasses}
use Rattle.trace_log.specs.LinesRead.{AreGiven, EndsBefore, AreLinesRead}
use Rattle.trace_log.specs.Laws.{LinesReadAreThere, LinesReadAreOne}
use Rattle.trace_log.proofs.LogLines.{front_of_first, length-ended_lines}
use Rattle.trace_log.proofs.Texts.{Begins}

-- ---- lines that were given

given_front : (with_last : Bool) (count : ℕ) (log : List ℕ) (lines more : List (List ℕ)) → AreGiven with_last count log (lines ++ more)
    → AreGiven with_last count log lines
given_front with_last count log lines more (inl few) = let long = length-ended_lines lines more in inl (omega arith)
given_front with_last count log lines more (inr all) = inr all

given_longer : (with_last : Bool) (count longer : ℕ) (log : List ℕ) (lines : List (List ℕ)) → count ≤ longer → AreGiven with_last count log lines
    → AreGiven with_last longer log lines
given_longer with_last count longer log lines more (inl few) = inl (omega arith)
given_longer with_last count longer log lines more (inr all) = let few = all.1 in inr (all.0, omega arith)

given_or_not : (with_last : Bool) (count : ℕ) (log : List ℕ) (lines : List (List ℕ)) → AreGiven with_last count log lines ⊎ (¬ AreGiven with_last count log lines)
given_or_not with_last count log lines = elim (cases_lt count (length (ended_lines lines))) [
  | inr few ↦ inl (inl few)
  | inl many ↦ elim (cases_lt count (length log)) [
    | inl long ↦ inr (λ given. neither given many long)
    | inr short ↦ by_last with_last refl many short
  ]
]
  where
    neither : AreGiven with_last count log lines → count < length (ended_lines lines) → count < length log → ⊥
    neither (inl few) many long = absurd (omega arith)
    neither (inr all) many long = let few = all.1 in absurd (omega arith)

    by_last : (b : Bool) → with_last ≡ b → count < length (ended_lines lines) → length log ≤ count
        → AreGiven with_last count log lines ⊎ (¬ AreGiven with_last count log lines)
    by_last true is many short = inl (inr (is, short))
    by_last false is many short = inr (λ given. elim given [ inl few ↦ absurd (omega arith) | inr all ↦ absurd (let yes = all.0 in cc) ])

-- ---- reading ends at one place

not_ended : (passes : Option Stamped → Bool) (with_last : Bool) (count : ℕ) (log : List ℕ) (lines : List (List ℕ)) (line : List ℕ) (later : List (List ℕ))
    (what : Option Stamped) → EndsBefore passes with_last count log lines (line ∷ later) → AreGiven with_last count log (lines ++ line ∷ [])
    → LineMeans line what → passes what ≡ true → ⊥
not_ended passes with_last count log lines line later what (inl not_given) given means passed = not_given given
not_ended passes with_last count log lines line later what (inr (inl nothing)) given means passed = nothing what means
not_ended passes with_last count log lines line later what (inr (inr fails)) given means passed =
    let same = line_means_at_most_one line what fails.0 means fails.1 in
    let failed = fails.2 in
    let passed_too = subst (λ w. passes w ≡ true) same passed in
    absurd (cc)

-- lines that mean something, pass the test and were given are among those that were read
among_read : (passes : Option Stamped → Bool) (with_last : Bool) (count : ℕ) (log : List ℕ) (front all later lines more : List (List ℕ))
    (meant meanings : List (Option Stamped)) → all ++ later ≡ lines ++ more → LinesMean all meant → EndsBefore passes with_last count log (front ++ all) later
    → LinesMean lines meanings → EachPasses passes meanings → AreGiven with_last count log (front ++ lines) → Begins meanings meant
among_read passes with_last count log front all later [] more meant [] parts means ends legal each given = (meant, refl)
among_read passes with_last count log front all later [] more meant (what ∷ meanings) parts means ends legal each given = absurd legal
among_read passes with_last count log front all later (line ∷ lines) more meant [] parts means ends legal each given = absurd legal
among_read passes with_last count log front [] later (line ∷ lines) more [] (what ∷ meanings) parts means ends legal each given =
    let here = subst (λ x. EndsBefore passes with_last count log x later) (append-nil front) ends in
    let ends_here = subst (EndsBefore passes with_last count log front) parts here in
    let one_more = subst (AreGiven with_last count log) (sym (append_assoc front (line ∷ []) lines)) given in
    absurd (not_ended passes with_last count log front line (lines ++ more) what ends_here
    (given_front with_last count log (front ++ line ∷ []) lines one_more) legal.0 each.0)
among_read passes with_last count log front [] later (line ∷ lines) more (one ∷ meant) (what ∷ meanings) parts means ends legal each given = absurd means
among_read passes with_last count log front (first ∷ all) later (line ∷ lines) more [] (what ∷ meanings) parts means ends legal each given = absurd means
among_read passes with_last count log front (first ∷ all) later (line ∷ lines) more (one ∷ meant) (what ∷ meanings) parts means ends legal each given =
    let same : first ≡ line = cc in
    let rest : all ++ later ≡ lines ++ more = cc in
    let one_is = line_means_at_most_one line one what (subst (λ x. LineMeans x one) same means.0) legal.0 in
    let ends_there = subst (λ x. EndsBefore passes with_last count log x later) (sym (append_assoc front (first ∷ []) all)) ends in
    let given_there = subst (λ x. AreGiven with_last count log (front ++ x ∷ lines)) (sym same) given in
    let given_here = subst (AreGiven with_last count log) (sym (append_assoc front (first ∷ []) lines)) given_there in
    let again = among_read passes with_last count log (front ++ first ∷ []) all later lines more meant meanings rest means.1 ends_there legal.1 each.1 given_here in
    (again.0, ap (λ x. x ∷ meant) one_is ∙ ap (λ x. what ∷ x) again.1)

pub read_begins : (passes : Option Stamped → Bool) (with_last : Bool) (count : ℕ) (log : List ℕ) (meant meanings : List (Option Stamped)) (lines more : List (List ℕ))
    → AreLinesRead passes with_last count log meant → log_lines log ≡ lines ++ more → LinesMean lines meanings → EachPasses passes meanings
    → AreGiven with_last count log lines → Begins meanings meant
read_begins passes with_last count log meant meanings lines more read parts legal each given =
    among_read passes with_last count log [] read.lines read.later lines more meant meanings (sym read.parts ∙ parts) read.means read.ends legal each given

-- with more bytes the same lines are read, and more
pub read_more : (passes : Option Stamped → Bool) (with_last : Bool) (count longer : ℕ) (log : List ℕ) (meanings meant : List (Option Stamped)) → count ≤ longer
    → AreLinesRead passes with_last count log meanings → AreLinesRead passes with_last longer log meant → Begins meanings meant
read_more passes with_last count longer log meanings meant few one two =
    read_begins passes with_last longer log meant meanings one.lines one.later two one.parts one.means one.each
    (given_longer with_last count longer log one.lines few one.given)

both_begin : {A : Type 0} (one two : List A) → Begins one two → Begins two one → one ≡ two
both_begin [] [] first second = refl
both_begin [] (y ∷ two) first second = absurd (let is = second.1 in cc)
both_begin (x ∷ one) [] first second = absurd (let is = first.1 in cc)
both_begin (x ∷ one) (y ∷ two) first second =
    let left = first.1 in
    let right = second.1 in
    let same : y ≡ x = cc in
    let there : two ≡ one ++ first.0 = cc in
    let back : one ≡ two ++ second.0 = cc in
    ap (λ z. z ∷ one) (sym same) ∙ ap (λ z. y ∷ z) (both_begin one two (first.0, there) (second.0, back))

pub lines_read_are_one : LinesReadAreOne
lines_read_are_one passes with_last count log one other is too =
    both_begin one other (read_more passes with_last count count log one other (omega arith) is too)
    (read_more passes with_last count count log other one (omega arith) too is)

-- ---- there are such lines

read_from : (passes : Option Stamped → Bool) (with_last : Bool) (count : ℕ) (log : List ℕ) (lines later : List (List ℕ)) (meanings : List (Option Stamped))
    → log_lines log ≡ lines ++ later → LinesMean lines meanings → EachPasses passes meanings → AreGiven with_last count log lines
    → (meant : List (Option Stamped)) × AreLinesRead passes with_last count log meant
read_from passes with_last count log lines [] meanings parts means each given =
    (meanings, record { lines = lines; later = []; parts = parts; means = means; each = each; given = given; ends = tt })
read_from passes with_last count log lines (line ∷ later) meanings parts means each given =
    let stop : EndsBefore passes with_last count log lines (line ∷ later) → (meant : List (Option Stamped)) × AreLinesRead passes with_last count log meant =
    λ ends. (meanings, record { lines = lines; later = line ∷ later; parts = parts; means = means; each = each; given = given; ends = ends }) in
    elim (given_or_not with_last count log (lines ++ line ∷ [])) [
      | inr not_given ↦ stop (inl not_given)
      | inl one_given ↦ elim (line_or_no_line line) [
        | inr nothing ↦ stop (inr (inl nothing))
        | inl found ↦ elim (cases_Bool (passes found.0)) [
          | inr failed ↦ stop (inr (inr (found.0, found.1, failed)))
          | inl passed ↦
              read_from passes with_last count log (lines ++ line ∷ []) later (meanings ++ found.0 ∷ [])
              (parts ∙ sym (append_assoc lines (line ∷ []) later))
              ((lines_mean_one_more (lines ++ line ∷ []) meanings found.0).1 (lines, line, refl, means, found.1))
              (AllByRecursion-append (λ what. passes what ≡ true) meanings (found.0 ∷ []) each (passed, tt)) one_given
        ]
      ]
    ]

pub lines_read_are_there : LinesReadAreThere
lines_read_are_there passes with_last count log =
    read_from passes with_last count log [] (log_lines log) [] refl tt tt (inl (omega arith))

-- ---- what a scanner has taken

-- the lines of a log of which a scanner has taken a front
pub stands_lines : (log front rest : List ℕ) (meanings : List (Option Stamped)) (standing : Standing) (stands : StandsAfter front meanings standing) → log ≡ front ++ rest
    → log_lines log ≡ stands.lines ++ log_lines (standing.line ++ rest)
stands_lines log front rest meanings standing stands parts =
    let cut : log ≡ ended_lines stands.lines ++ (standing.line ++ rest) =
    parts ∙ ap (λ x. x ++ rest) stands.parts ∙ append_assoc (ended_lines stands.lines) standing.line rest in
    ap log_lines cut ∙ log_lines_go_on stands.lines (standing.line ++ rest) (lines_have_no_line_feed stands.lines meanings stands.means)

-- the line that it is in ends after what it has taken
pub next_ends_behind : (front rest line : List ℕ) (later : List (List ℕ)) (meanings : List (Option Stamped)) (standing : Standing)
    (stands : StandsAfter front meanings standing) → log_lines (standing.line ++ rest) ≡ line ∷ later → length front < length (ended_lines (stands.lines ++ line ∷ []))
next_ends_behind front rest line later meanings standing stands is =
    let begins = front_of_first standing.line rest line later (completable_has_no_line_feed standing.line stands.legal) is in
    let line_long = ap length begins.1 ∙ length-append standing.line begins.0 in
    let front_long = ap length stands.parts ∙ length-append (ended_lines stands.lines) standing.line in
    let all_long = length-ended_lines stands.lines (line ∷ []) in
    let one_long = length-append (line ++ 10 ∷ []) [] in
    let feed_long = length-append line (10 ∷ []) in
    omega arith

-- all lines of a log that was given whole
pub all_lines_read : (passes : Option Stamped → Bool) (with_last : Bool) (count : ℕ) (log : List ℕ) (meanings : List (Option Stamped)) → LogMeans log meanings
    → EachPasses passes meanings → with_last ≡ true → length log ≤ count → AreLinesRead passes with_last count log meanings
all_lines_read passes with_last count log meanings means each last few = record {
  lines = log_lines log;
  later = [];
  parts = sym (append-nil (log_lines log));
  means = means;
  each = each;
  given = inr (last, few);
  ends = tt;
}

-- so the lines that it has taken are those that were given with these bytes
pub stands_read : (passes : Option Stamped → Bool) (with_last : Bool) (count : ℕ) (log front rest : List ℕ) (meanings : List (Option Stamped)) (standing : Standing)
    → StandsAfter front meanings standing → log ≡ front ++ rest → length front ≡ count → EachPasses passes meanings
    → (with_last ≡ true → ¬ (length log ≤ count)) → AreLinesRead passes with_last count log meanings
stands_read passes with_last count log front rest meanings standing stands parts full each more = record {
  lines = stands.lines;
  later = log_lines (standing.line ++ rest);
  parts = stands_lines log front rest meanings standing stands parts;
  means = stands.means;
  each = each;
  given =
      let front_long = ap length stands.parts ∙ length-append (ended_lines stands.lines) standing.line in
      inl (omega arith);
  ends = ends (log_lines (standing.line ++ rest)) refl;
}
  where
    not_given : (line : List ℕ) → length front < length (ended_lines (stands.lines ++ line ∷ [])) → AreGiven with_last count log (stands.lines ++ line ∷ []) → ⊥
    not_given line behind (inl few) = absurd (omega arith)
    not_given line behind (inr all) = more all.0 all.1

    ends : (later : List (List ℕ)) → log_lines (standing.line ++ rest) ≡ later → EndsBefore passes with_last count log stands.lines later
    ends [] is = tt
    ends (line ∷ later) is = inl (not_given line (next_ends_behind front rest line later meanings standing stands is))

-- the lines before a refused place were read
pub read_before_bad : (passes : Option Stamped → Bool) (with_last : Bool) (count : ℕ) (log : List ℕ) (line column : ℕ) (place : IsRefusedIn log line column)
    → EachPasses passes place.meanings → length (ended_lines place.lines) ≤ count → AreLinesRead passes with_last count log place.meanings
read_before_bad passes with_last count log line column place each few = record {
  lines = place.lines;
  later = log_lines place.rest;
  parts = refused_lines log line column place;
  means = place.legal;
  each = each;
  given = inl few;
  ends = ends (log_lines place.rest) refl;
}
  where
    ends : (later : List (List ℕ)) → log_lines place.rest ≡ later → EndsBefore passes with_last count log place.lines later
    ends [] is = tt
    ends (text ∷ later) is = inr (inl (refused_line_is_no_line place.rest column text later place.here is).0)

-- the lines before one on which the test fails were read
pub read_before_failing : (passes : Option Stamped → Bool) (with_last : Bool) (count : ℕ) (log : List ℕ) (lines : List (List ℕ)) (meanings : List (Option Stamped))
    (text : List ℕ) (what : Option Stamped) (later : List (List ℕ)) → log_lines log ≡ lines ++ text ∷ later → LinesMean lines meanings → EachPasses passes meanings
    → LineMeans text what → passes what ≡ false → length (ended_lines lines) ≤ count → AreLinesRead passes with_last count log meanings
read_before_failing passes with_last count log lines meanings text what later parts legal each means failed few = record {
  lines = lines;
  later = text ∷ later;
  parts = parts;
  means = legal;
  each = each;
  given = inl few;
  ends = inr (inr (what, means, failed));
}
