-- What refuses a log: one thing at most, and where it lies among the lines.
use Rattle.std.proofs.Common.{◌≡◌, ℕ, Bool, true, false, List, [], ◌∷◌, ◌++◌, refl, ap, sym, subst, ◌∙◌, Option, Some, None}
use Rattle.std.specs.Prelude.{is_none}
use Rattle.can_log.specs.Line.{LineMeans}
use Rattle.can_log.specs.Log.{log_lines, LinesMean, LogMeans, IsRefusedRest}
use Rattle.can_log.specs.declared.frame.Stamped.{Stamped}
use Rattle.can_log.proofs.Promises.{line_means_at_most_one, refused_log_has_no_meanings, refused_lines, refused_line_is_no_line}
use Rattle.trace_log.specs.Settings.{Settings}
use Rattle.trace_log.specs.Refusal.{oversize, announces_within, EachPasses, EachWithin, IsBadLine, IsOversizeLine, IsNotRefused}

-- ---- lines beside lines

-- what these lines mean begins with what those mean
abbrev pub BeginsWith : List (Option Stamped) → List (Option Stamped) → Option Stamped → Type 0
BeginsWith all meanings what = (more : List (Option Stamped)) × (all ≡ meanings ++ what ∷ more)

-- lines that mean something, and those of them before one that does
pub means_before : (all lines : List (List ℕ)) (text : List ℕ) (later : List (List ℕ)) (meant meanings : List (Option Stamped)) (what : Option Stamped)
    → LinesMean all meant → all ≡ lines ++ text ∷ later → LinesMean lines meanings → LineMeans text what → BeginsWith meant meanings what
means_before [] [] text later meant meanings what means parts legal is = absurd (cc)
means_before [] (line ∷ lines) text later meant meanings what means parts legal is = absurd (cc)
means_before (first ∷ all) lines text later [] meanings what means parts legal is = absurd means
means_before (first ∷ all) [] text later (one ∷ meant) (other ∷ meanings) what means parts legal is = absurd legal
means_before (first ∷ all) [] text later (one ∷ meant) [] what means parts legal is =
    let same : first ≡ text = cc in
    let one_is = line_means_at_most_one text one what (subst (λ x. LineMeans x one) same means.0) is in
    (meant, ap (λ x. x ∷ meant) one_is)
means_before (first ∷ all) (line ∷ lines) text later (one ∷ meant) [] what means parts legal is = absurd legal
means_before (first ∷ all) (line ∷ lines) text later (one ∷ meant) (other ∷ meanings) what means parts legal is =
    let same : first ≡ line = cc in
    let rest : all ≡ lines ++ text ∷ later = cc in
    let one_is = line_means_at_most_one line one other (subst (λ x. LineMeans x one) same means.0) legal.0 in
    let again = means_before all lines text later meant meanings what means.1 rest legal.1 is in
    (again.0, ap (λ x. x ∷ meant) one_is ∙ ap (λ x. other ∷ x) again.1)

-- lines that mean something before bytes that are refused: a legal line after legal lines is one of them
pub refused_behind : (lines : List (List ℕ)) (meant : List (Option Stamped)) (rest : List ℕ) (column : ℕ)
    (front : List (List ℕ)) (text : List ℕ) (later : List (List ℕ)) (meanings : List (Option Stamped)) (what : Option Stamped)
    → LinesMean lines meant → IsRefusedRest rest column → lines ++ log_lines rest ≡ front ++ text ∷ later → LinesMean front meanings → LineMeans text what
    → BeginsWith meant meanings what
refused_behind [] meant rest column [] text later meanings what means place parts legal is =
    absurd ((refused_line_is_no_line rest column text later place parts).0 what is)
refused_behind [] meant rest column (line ∷ front) text later [] what means place parts legal is = absurd legal
refused_behind [] meant rest column (line ∷ front) text later (one ∷ meanings) what means place parts legal is =
    absurd ((refused_line_is_no_line rest column line (front ++ text ∷ later) place parts).0 one legal.0)
refused_behind (first ∷ lines) [] rest column front text later meanings what means place parts legal is = absurd means
refused_behind (first ∷ lines) (one ∷ meant) rest column [] text later (other ∷ meanings) what means place parts legal is = absurd legal
refused_behind (first ∷ lines) (one ∷ meant) rest column [] text later [] what means place parts legal is =
    let same : first ≡ text = cc in
    (meant, ap (λ x. x ∷ meant) (line_means_at_most_one text one what (subst (λ x. LineMeans x one) same means.0) is))
refused_behind (first ∷ lines) (one ∷ meant) rest column (line ∷ front) text later [] what means place parts legal is = absurd legal
refused_behind (first ∷ lines) (one ∷ meant) rest column (line ∷ front) text later (other ∷ meanings) what means place parts legal is =
    let same : first ≡ line = cc in
    let behind : lines ++ log_lines rest ≡ front ++ text ∷ later = cc in
    let one_is = line_means_at_most_one line one other (subst (λ x. LineMeans x one) same means.0) legal.0 in
    let again = refused_behind lines meant rest column front text later meanings what means.1 place behind legal.1 is in
    (again.0, ap (λ x. x ∷ meant) one_is ∙ ap (λ x. other ∷ x) again.1)

-- ---- lines that pass a test

-- the test fails on one of them
pub fails_within : (passes : Option Stamped → Bool) (all meanings : List (Option Stamped)) (what : Option Stamped) → EachPasses passes all
    → BeginsWith all meanings what → passes what ≡ false → ⊥
fails_within passes [] [] what each begins fails = absurd (let is = begins.1 in cc)
fails_within passes [] (one ∷ meanings) what each begins fails = absurd (let is = begins.1 in cc)
fails_within passes (first ∷ all) [] what each begins fails =
    let is = begins.1 in
    let same : first ≡ what = cc in
    let passed : passes what ≡ true = subst (λ w. passes w ≡ true) same each.0 in
    absurd (cc)
fails_within passes (first ∷ all) (one ∷ meanings) what each begins fails =
    let is = begins.1 in
    fails_within passes all meanings what each.1 (begins.0, cc) fails

-- a line that announces a length above the limit fails the test
pub announcing_fails : (limit : ℕ) (settings : Settings) (what : Option Stamped) (announced : ℕ) → oversize limit settings what ≡ Some announced
    → announces_within limit settings what ≡ false
announcing_fails limit settings what announced is = ap is_none is

-- and what fails the test announces such a length
pub failing_announces : (limit : ℕ) (settings : Settings) (what : Option Stamped) → announces_within limit settings what ≡ false
    → (announced : ℕ) × (oversize limit settings what ≡ Some announced)
failing_announces limit settings what fails = go (oversize limit settings what) refl fails
  where
    go : (o : Option ℕ) → oversize limit settings what ≡ o → is_none o ≡ false → (announced : ℕ) × (oversize limit settings what ≡ Some announced)
    go None is failed = absurd (cc)
    go (Some announced) is failed = (announced, is)

-- ---- what refuses a log

-- a log is not refused both at a place and in a line that announces too much
pub bad_line_alone : (limit : ℕ) (settings : Settings) (log : List ℕ) (line column other announced : ℕ) → IsBadLine limit settings log line column
    → IsOversizeLine limit settings log other announced → ⊥
bad_line_alone limit settings log line column other announced bad over =
    let parts = sym (refused_lines log line column bad.found.place) ∙ over.found.parts in
    let begins = refused_behind bad.found.place.lines bad.found.place.meanings bad.found.place.rest column over.found.before over.found.text over.found.later over.meanings over.found.what
    bad.found.place.legal bad.found.place.here parts over.legal over.found.means in
    fails_within (announces_within limit settings) bad.found.place.meanings over.meanings over.found.what bad.within begins
    (announcing_fails limit settings over.found.what announced over.found.announces)

-- a legal log in which no line announces too much is not refused
pub legal_is_not_refused : (limit : ℕ) (settings : Settings) (log : List ℕ) (meanings : List (Option Stamped)) → LogMeans log meanings
    → EachWithin limit settings meanings → IsNotRefused limit settings log
legal_is_not_refused limit settings log meanings means each = record {
  no_bad_line = λ line column bad. refused_log_has_no_meanings log line column meanings bad.found.place means;
  no_oversize = λ line announced over.
      fails_within (announces_within limit settings) meanings over.meanings over.found.what each
      (means_before (log_lines log) over.found.before over.found.text over.found.later meanings over.meanings over.found.what means over.found.parts over.legal over.found.means)
      (announcing_fails limit settings over.found.what announced over.found.announces);
}

-- two lines that announce too much, each after lines that don't, are the same line
pub record IsSameLine (lines other_lines : List (List ℕ)) (text other_text : List ℕ) (what other : Option Stamped) : Type 0 where
  pub lines_are : lines ≡ other_lines
  pub text_is : text ≡ other_text
  pub what_is : what ≡ other

pub same_line : (passes : Option Stamped → Bool) (lines other_lines : List (List ℕ)) (text other_text : List ℕ) (later other_later : List (List ℕ))
    (meanings other_whats : List (Option Stamped)) (what other : Option Stamped) → lines ++ text ∷ later ≡ other_lines ++ other_text ∷ other_later
    → LinesMean lines meanings → EachPasses passes meanings → LineMeans text what → passes what ≡ false
    → LinesMean other_lines other_whats → EachPasses passes other_whats → LineMeans other_text other → passes other ≡ false
    → IsSameLine lines other_lines text other_text what other
same_line passes [] [] text other_text later other_later meanings other_whats what other parts legal each means fails other_legal other_each other_means other_fails =
    let same : text ≡ other_text = cc in
    record { lines_are = refl; text_is = same; what_is = line_means_at_most_one other_text what other (subst (λ x. LineMeans x what) same means) other_means }
same_line passes [] (line ∷ other_lines) text other_text later other_later meanings [] what other parts legal each means fails other_legal other_each other_means other_fails =
    absurd other_legal
same_line passes [] (line ∷ other_lines) text other_text later other_later meanings (one ∷ other_whats) what other parts legal each means fails other_legal other_each other_means other_fails =
    let same : text ≡ line = cc in
    let is = line_means_at_most_one line what one (subst (λ x. LineMeans x what) same means) other_legal.0 in
    let passed = subst (λ w. passes w ≡ true) (sym is) other_each.0 in
    absurd (cc)
same_line passes (line ∷ lines) [] text other_text later other_later [] other_whats what other parts legal each means fails other_legal other_each other_means other_fails =
    absurd legal
same_line passes (line ∷ lines) [] text other_text later other_later (one ∷ meanings) other_whats what other parts legal each means fails other_legal other_each other_means other_fails =
    let same : line ≡ other_text = cc in
    let is = line_means_at_most_one line one other legal.0 (subst (λ x. LineMeans x other) (sym same) other_means) in
    let passed = subst (λ w. passes w ≡ true) is each.0 in
    absurd (cc)
same_line passes (line ∷ lines) (first ∷ other_lines) text other_text later other_later [] other_whats what other parts legal each means fails other_legal other_each other_means other_fails =
    absurd legal
same_line passes (line ∷ lines) (first ∷ other_lines) text other_text later other_later (one ∷ meanings) [] what other parts legal each means fails other_legal other_each other_means other_fails =
    absurd other_legal
same_line passes (line ∷ lines) (first ∷ other_lines) text other_text later other_later (one ∷ meanings) (two ∷ other_whats) what other
    parts legal each means fails other_legal other_each other_means other_fails =
    let first_is : line ≡ first = cc in
    let rest : lines ++ text ∷ later ≡ other_lines ++ other_text ∷ other_later = cc in
    let again = same_line passes lines other_lines text other_text later other_later meanings other_whats what other rest legal.1 each.1 means fails other_legal.1 other_each.1 other_means other_fails in
    record {
      lines_are = ap (λ x. x ∷ lines) first_is ∙ ap (λ x. first ∷ x) again.lines_are;
      text_is = again.text_is;
      what_is = again.what_is;
    }

pub oversize_is_one : (limit : ℕ) (settings : Settings) (log : List ℕ) (line other announced other_announced : ℕ)
    (one : IsOversizeLine limit settings log line announced) (two : IsOversizeLine limit settings log other other_announced)
    → IsSameLine one.found.before two.found.before one.found.text two.found.text one.found.what two.found.what
oversize_is_one limit settings log line other announced other_announced one two =
    let a = one.found in
    let b = two.found in
    same_line (announces_within limit settings) a.before b.before a.text b.text a.later b.later one.meanings two.meanings a.what b.what
    (sym a.parts ∙ b.parts) one.legal one.within a.means (announcing_fails limit settings a.what announced a.announces)
    two.legal two.within b.means (announcing_fails limit settings b.what other_announced b.announces)
