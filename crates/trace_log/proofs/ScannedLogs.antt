-- What a scanner's answers say of a log, and what a run answers and has written then.
use Rattle.std.proofs.Common.{◌≡◌, ℕ, ◌+◌, ◌<◌, ◌≤◌, Bool, List, [], ◌∷◌, ◌++◌, length, arith, refl, ap, sym, subst, ◌∙◌, Option, Some, inl, inr}
use Rattle.std.proofs.Common.{append-nil, append_assoc, length-append}
use Rattle.std.specs.Prelude.{◌⊎◌}
use Rattle.std.proofs.lemmas.Bool.{cases_lt}
use Rattle.std.proofs.lemmas.List.Concat.{flat_map-append}
use Rattle.can_log.specs.Log.{log_lines, LogMeans, ended_lines, IsRefusedRest, IsRefusedIn}
use Rattle.can_log.specs.Refused.{IsRefusedPlace, IsUnfinishedAt}
use Rattle.can_log.specs.Scanning.{Standing}
use Rattle.can_log.specs.WholeLog.{StandsAfter}
use Rattle.can_log.specs.declared.frame.Stamped.{Stamped}
use Rattle.can_log.proofs.Promises.{refused_log_has_no_meanings, lines_mean_as_many, lines_mean_one_more, lines_are_log}
use Rattle.trace_log.specs.Settings.{Settings}
use Rattle.trace_log.specs.Refusal.{oversize, announces_within, EachPasses, EachWithin, Counts, CountsAsBad, IsBadLine, IsOversizeLine, IsNotRefused, HasNoBadPlaceWithin, IsNotRefusedWithin}
use Rattle.trace_log.specs.LinesRead.{AreLinesRead}
use Rattle.trace_log.proofs.LogLines.{ended_log_lines, length-ended_lines}
use Rattle.trace_log.proofs.Refusals.{means_before, fails_within, announcing_fails}
use Rattle.trace_log.proofs.ReadLines.{stands_lines, next_ends_behind, read_before_bad, read_before_failing}

-- ---- a refused place

-- The log is refused at this place, after lines that mean this, and the place is within `bytes` bytes, or the log is.
pub record IsBadBehind (log : List ℕ) (line column : ℕ) (meanings : List (Option Stamped)) (bytes : ℕ) : Type 0 where
  pub place : IsRefusedIn log line column
  pub behind : place.meanings ≡ meanings
  pub before : length (ended_lines place.lines) ≤ bytes
  pub within : (length (ended_lines place.lines) + column ≤ bytes) ⊎ (length log ≤ bytes)

-- so it counts where these are no more than the limit, and refuses the log where no line before it announces too much
pub bad_counts : (settings : Settings) (log : List ℕ) (line column : ℕ) (meanings : List (Option Stamped)) (bytes : ℕ) → IsBadBehind log line column meanings bytes
    → bytes ≤ settings.max_bytes → CountsAsBad settings log line column
bad_counts settings log line column meanings bytes bad few = record { place = bad.place; counts = counts bad.within }
  where
    counts : (length (ended_lines bad.place.lines) + column ≤ bytes) ⊎ (length log ≤ bytes) → Counts (length (ended_lines bad.place.lines) + column) settings log
    counts (inl place) = inl (omega arith)
    counts (inr short) = inr (omega arith)

pub bad_line : (limit : ℕ) (settings : Settings) (log : List ℕ) (line column : ℕ) (meanings : List (Option Stamped)) (bytes : ℕ) → IsBadBehind log line column meanings bytes
    → bytes ≤ settings.max_bytes → EachWithin limit settings meanings → IsBadLine limit settings log line column
unfolding bad_counts
bad_line limit settings log line column meanings bytes bad few each =
    record { found = bad_counts settings log line column meanings bytes bad few; within = subst (EachWithin limit settings) (sym bad.behind) each }

-- the lines before it were read
pub read_before_place : (passes : Option Stamped → Bool) (with_last : Bool) (count : ℕ) (log : List ℕ) (line column : ℕ) (meanings : List (Option Stamped)) (bytes : ℕ)
    → IsBadBehind log line column meanings bytes → bytes ≤ count → EachPasses passes meanings → AreLinesRead passes with_last count log meanings
read_before_place passes with_last count log line column meanings bytes bad few each =
    let before = bad.before in
    subst (AreLinesRead passes with_last count log) bad.behind
    (read_before_bad passes with_last count log line column bad.place (subst (EachPasses passes) (sym bad.behind) each) (omega arith))

-- ---- a line that announces too much

-- The log is refused in this line, after lines that mean this and take no more than `bytes` bytes.
pub record IsOversizeBehind (limit : ℕ) (settings : Settings) (log : List ℕ) (line announced : ℕ) (meanings : List (Option Stamped)) (bytes : ℕ) : Type 0 where
  pub over : IsOversizeLine limit settings log line announced
  pub behind : over.meanings ≡ meanings
  pub before : length (ended_lines over.found.before) ≤ bytes

-- a line that ended announces too much: the scanner has taken it, and stands after these bytes
pub oversize_taken : (limit : ℕ) (settings : Settings) (log front rest : List ℕ) (meanings : List (Option Stamped)) (what : Option Stamped) (standing : Standing)
    (line announced : ℕ) → StandsAfter front (meanings ++ what ∷ []) standing → log ≡ front ++ rest → length front ≤ settings.max_bytes
    → line ≡ length meanings + 1 → EachWithin limit settings meanings → oversize limit settings what ≡ Some announced
    → IsOversizeBehind limit settings log line announced meanings (length front)
oversize_taken limit settings log front rest meanings what standing line announced stands parts few at each announces =
    let ends = (lines_mean_one_more stands.lines meanings what).0 stands.means in
    let as_many = lines_mean_as_many ends.0 meanings ends.3 in
    let long = ap length stands.parts ∙ length-append (ended_lines stands.lines) standing.line in
    let lines_long = ap (λ x. length (ended_lines x)) ends.2 in
    let all_long = length-ended_lines ends.0 (ends.1 ∷ []) in
    record {
      over = record {
        found = record {
          before = ends.0;
          text = ends.1;
          what = what;
          later = log_lines (standing.line ++ rest);
          parts = stands_lines log front rest (meanings ++ what ∷ []) standing stands parts ∙ ap (λ x. x ++ log_lines (standing.line ++ rest)) ends.2
              ∙ append_assoc ends.0 (ends.1 ∷ []) (log_lines (standing.line ++ rest));
          at = omega arith;
          means = ends.4;
          announces = announces;
          counts = inl (omega arith);
        };
        meanings = meanings;
        legal = ends.3;
        within = each;
      };
      behind = refl;
      before = omega arith;
    }

-- the ended lines before the last line of a log are no longer than the log
lines_before_last : (log : List ℕ) (lines : List (List ℕ)) (text : List ℕ) → log_lines log ≡ lines ++ text ∷ [] → length (ended_lines lines) ≤ length log
lines_before_last log lines text parts =
    let long = length-ended_lines lines (text ∷ []) in
    let one = length-append (text ++ 10 ∷ []) [] in
    let feed = length-append text (10 ∷ []) in
    let all = ap (λ x. length (ended_lines x)) parts in
    let most = ended_log_lines log in
    omega arith

-- the unfinished last line does
pub oversize_last : (limit : ℕ) (settings : Settings) (log : List ℕ) (meanings : List (Option Stamped)) (what : Option Stamped) (line announced : ℕ)
    → LogMeans log (meanings ++ what ∷ []) → length log ≤ settings.max_bytes → line ≡ length meanings + 1 → EachWithin limit settings meanings
    → oversize limit settings what ≡ Some announced → IsOversizeBehind limit settings log line announced meanings (length log)
oversize_last limit settings log meanings what line announced means short at each announces =
    let ends = (lines_mean_one_more (log_lines log) meanings what).0 means in
    let as_many = lines_mean_as_many ends.0 meanings ends.3 in
    record {
      over = record {
        found = record {
          before = ends.0;
          text = ends.1;
          what = what;
          later = [];
          parts = ends.2;
          at = omega arith;
          means = ends.4;
          announces = announces;
          counts = inr short;
        };
        meanings = meanings;
        legal = ends.3;
        within = each;
      };
      behind = refl;
      before = lines_before_last log ends.0 ends.1 ends.2;
    }

-- the lines before it were read
pub read_before_oversize : (limit : ℕ) (settings : Settings) (with_last : Bool) (count : ℕ) (log : List ℕ) (line announced : ℕ) (meanings : List (Option Stamped))
    (bytes : ℕ) → IsOversizeBehind limit settings log line announced meanings bytes → bytes ≤ count
    → AreLinesRead (announces_within limit settings) with_last count log meanings
read_before_oversize limit settings with_last count log line announced meanings bytes found few =
    let over = found.over.found in
    let before = found.before in
    subst (AreLinesRead (announces_within limit settings) with_last count log) found.behind
    (read_before_failing (announces_within limit settings) with_last count log over.before found.over.meanings over.text over.what over.later over.parts found.over.legal
    found.over.within over.means (announcing_fails limit settings over.what announced over.announces) (omega arith))

-- ---- a log that is longer than the limit

pub splits : {A : Type 0} (xs ys us vs : List A) → xs ++ ys ≡ us ++ vs → length us ≤ length xs → (mid : List A) × (xs ≡ us ++ mid) × (vs ≡ mid ++ ys)
splits xs ys [] vs same few = (xs, refl, sym same)
splits [] ys (u ∷ us) vs same few = absurd (omega arith)
splits (x ∷ xs) ys (u ∷ us) vs same few =
    let head : x ≡ u = cc in
    let tail : xs ++ ys ≡ us ++ vs = cc in
    let rest = splits xs ys us vs tail (omega arith) in
    (rest.0, ap (λ z. z ∷ xs) head ∙ ap (λ z. u ∷ z) rest.1, rest.2)

-- what a scanner has taken, with the line that it is in completed and ended
record IsCompleted (front : List ℕ) : Type 0 where
  more : List ℕ
  meanings : List (Option Stamped)
  means : LogMeans (front ++ more) meanings

completed : (front : List ℕ) (meanings : List (Option Stamped)) (standing : Standing) → StandsAfter front meanings standing → IsCompleted front
completed front meanings standing stands =
    let line = standing.line ++ stands.legal.0 in
    let lines = stands.lines ++ line ∷ [] in
    let last : ended_lines lines ≡ ended_lines stands.lines ++ (line ++ 10 ∷ []) =
    flat_map-append (λ (l : List ℕ). l ++ 10 ∷ []) stands.lines (line ∷ [])
    ∙ ap (λ x. ended_lines stands.lines ++ x) (append-nil (line ++ 10 ∷ [])) in
    let here : ended_lines lines ≡ front ++ (stands.legal.0 ++ 10 ∷ []) =
    last ∙ ap (λ x. ended_lines stands.lines ++ x) (append_assoc standing.line stands.legal.0 (10 ∷ []))
    ∙ sym (append_assoc (ended_lines stands.lines) standing.line (stands.legal.0 ++ 10 ∷ []))
    ∙ ap (λ x. x ++ (stands.legal.0 ++ 10 ∷ [])) (sym stands.parts) in
    record {
      more = stands.legal.0 ++ 10 ∷ [];
      meanings = meanings ++ stands.legal.1 ∷ [];
      means = subst (λ x. LogMeans x (meanings ++ stands.legal.1 ∷ [])) here
          (lines_are_log lines (meanings ++ stands.legal.1 ∷ [])
          ((lines_mean_one_more lines meanings stands.legal.1).1 (stands.lines, line, refl, stands.means, stands.legal.3)));
    }

-- a place that is refused within the first bytes of a log is refused in each log that begins with them
refused_in_front : (log front rest more : List ℕ) (line column : ℕ) → log ≡ front ++ rest → (place : IsRefusedIn log line column)
    → IsRefusedPlace place.rest column → length (ended_lines place.lines) + column ≤ length front → IsRefusedIn (front ++ more) line column
refused_in_front log front rest more line column parts place here within =
    let lines = ended_lines place.lines in
    let bad = here.text ++ here.bad ∷ [] in
    let at = here.at in
    let bad_long = length-append here.text (here.bad ∷ []) in
    let all_long = length-append lines bad in
    let rest_is : place.rest ≡ bad ++ here.after = here.parts ∙ sym (append_assoc here.text (here.bad ∷ []) here.after) in
    let cut : front ++ rest ≡ (lines ++ bad) ++ here.after =
    sym parts ∙ place.parts ∙ ap (λ x. lines ++ x) rest_is ∙ sym (append_assoc lines bad here.after) in
    let split = splits front rest (lines ++ bad) here.after cut (omega arith) in
    let tail = split.0 ++ more in
    let whole : front ++ more ≡ lines ++ (here.text ++ here.bad ∷ tail) =
    ap (λ x. x ++ more) split.1 ∙ append_assoc (lines ++ bad) split.0 more ∙ append_assoc lines bad tail
    ∙ ap (λ x. lines ++ x) (append_assoc here.text (here.bad ∷ []) tail) in
    record {
      lines = place.lines;
      meanings = place.meanings;
      rest = here.text ++ here.bad ∷ tail;
      parts = whole;
      legal = place.legal;
      at = place.at;
      here = inl (record {
        text = here.text;
        bad = here.bad;
        after = tail;
        parts = refl;
        at = here.at;
        legal = here.legal;
        line_feed = here.line_feed;
        other = here.other;
      });
    }

unfinished_is_behind : (log front rest : List ℕ) (line column : ℕ) → log ≡ front ++ rest → (place : IsRefusedIn log line column)
    → IsUnfinishedAt place.rest column → length front < length (ended_lines place.lines) + column
unfinished_is_behind log front rest line column parts place here =
    let at = here.at in
    let long = ap length place.parts ∙ length-append (ended_lines place.lines) place.rest in
    let all = ap length parts ∙ length-append front rest in
    omega arith

-- no place is refused among the bytes that a scanner has taken
pub none_taken : (log front rest : List ℕ) (meanings : List (Option Stamped)) (standing : Standing) (line column : ℕ) → StandsAfter front meanings standing
    → log ≡ front ++ rest → (place : IsRefusedIn log line column) → length (ended_lines place.lines) + column ≤ length front → ⊥
none_taken log front rest meanings standing line column stands parts place within = go place.here
  where
    go : IsRefusedRest place.rest column → ⊥
    go (inl here) =
        let whole = completed front meanings standing stands in
        refused_log_has_no_meanings (front ++ whole.more) line column whole.meanings
        (refused_in_front log front rest whole.more line column parts place here within) whole.means
    go (inr here) = let behind = unfinished_is_behind log front rest line column parts place here in absurd (omega arith)

-- a line that announces too much is none of those that it has taken
none_announces : (limit : ℕ) (settings : Settings) (log front rest : List ℕ) (meanings : List (Option Stamped)) (standing : Standing) (line announced : ℕ)
    → StandsAfter front meanings standing → log ≡ front ++ rest → EachWithin limit settings meanings → (over : IsOversizeLine limit settings log line announced)
    → length front < length (ended_lines (over.found.before ++ over.found.text ∷ []))
none_announces limit settings log front rest meanings standing line announced stands parts each over = elim (cases_lt (length over.found.before) (length stands.lines)) [
  | inl fewer ↦ absurd (taken fewer)
  | inr more ↦ behind more
]
  where
    both : stands.lines ++ log_lines (standing.line ++ rest) ≡ over.found.before ++ over.found.text ∷ over.found.later
    both = sym (stands_lines log front rest meanings standing stands parts) ∙ over.found.parts

    taken : length over.found.before < length stands.lines → ⊥
    taken fewer =
        let one_more : stands.lines ++ log_lines (standing.line ++ rest) ≡ (over.found.before ++ over.found.text ∷ []) ++ over.found.later =
        both ∙ sym (append_assoc over.found.before (over.found.text ∷ []) over.found.later) in
        let long = length-append over.found.before (over.found.text ∷ []) in
        let split = splits stands.lines (log_lines (standing.line ++ rest)) (over.found.before ++ over.found.text ∷ []) over.found.later one_more (omega arith) in
        let here : stands.lines ≡ over.found.before ++ over.found.text ∷ split.0 = split.1 ∙ append_assoc over.found.before (over.found.text ∷ []) split.0 in
        fails_within (announces_within limit settings) meanings over.meanings over.found.what each
        (means_before stands.lines over.found.before over.found.text split.0 meanings over.meanings over.found.what stands.means here over.legal over.found.means)
        (announcing_fails limit settings over.found.what announced over.found.announces)

    behind : length stands.lines ≤ length over.found.before → length front < length (ended_lines (over.found.before ++ over.found.text ∷ []))
    behind more =
        let one_more : (over.found.before ++ over.found.text ∷ []) ++ over.found.later ≡ stands.lines ++ log_lines (standing.line ++ rest) =
        append_assoc over.found.before (over.found.text ∷ []) over.found.later ∙ sym both in
        let long = length-append over.found.before (over.found.text ∷ []) in
        let split = splits (over.found.before ++ over.found.text ∷ []) over.found.later stands.lines (log_lines (standing.line ++ rest)) one_more (omega arith) in
        first_is split.0 split.1 split.2
      where
        first_is : (mid : List (List ℕ)) → over.found.before ++ over.found.text ∷ [] ≡ stands.lines ++ mid → log_lines (standing.line ++ rest) ≡ mid ++ over.found.later
            → length front < length (ended_lines (over.found.before ++ over.found.text ∷ []))
        first_is [] is lines_are =
            let one = ap length is ∙ length-append stands.lines [] in
            let long = length-append over.found.before (over.found.text ∷ []) in
            absurd (omega arith)
        first_is (first ∷ mid) is lines_are =
            let past = next_ends_behind front rest first (mid ++ over.found.later) meanings standing stands lines_are in
            let same = ap (λ x. length (ended_lines x)) (is ∙ sym (append_assoc stands.lines (first ∷ []) mid)) in
            let long = length-ended_lines (stands.lines ++ first ∷ []) mid in
            omega arith

-- no refused place counts, where a scanner has taken as many bytes as the limit
pub no_place_counts : (settings : Settings) (log front rest : List ℕ) (meanings : List (Option Stamped)) (standing : Standing) → StandsAfter front meanings standing
    → log ≡ front ++ rest → length front ≡ settings.max_bytes → settings.max_bytes < length log → (line column : ℕ) → ¬ CountsAsBad settings log line column
no_place_counts settings log front rest meanings standing stands parts full long line column bad = no_bad bad.counts
  where
    no_bad : Counts (length (ended_lines bad.place.lines) + column) settings log → ⊥
    no_bad (inl within) = none_taken log front rest meanings standing line column stands parts bad.place (omega arith)
    no_bad (inr short) = absurd (omega arith)

-- nothing that a scanner has taken refuses the log, where it has taken as many bytes as the limit
pub not_refused_at_limit : (limit : ℕ) (settings : Settings) (log front rest : List ℕ) (meanings : List (Option Stamped)) (standing : Standing)
    → StandsAfter front meanings standing → log ≡ front ++ rest → length front ≡ settings.max_bytes → settings.max_bytes < length log
    → EachWithin limit settings meanings → IsNotRefused limit settings log
not_refused_at_limit limit settings log front rest meanings standing stands parts full long each = record {
  no_bad_line = λ line column bad. no_place_counts settings log front rest meanings standing stands parts full long line column bad.found;
  no_oversize = λ line announced over. no_over line announced over over.found.counts;
}
  where
    no_over : (line announced : ℕ) (over : IsOversizeLine limit settings log line announced)
        → Counts (length (ended_lines (over.found.before ++ over.found.text ∷ []))) settings log → ⊥
    no_over line announced over (inl within) =
        let behind = none_announces limit settings log front rest meanings standing line announced stands parts each over in
        absurd (omega arith)
    no_over line announced over (inr short) = absurd (omega arith)

-- ---- the first bytes of a log

-- no place is refused within what a scanner has taken
pub no_place_within : (log front rest : List ℕ) (meanings : List (Option Stamped)) (standing : Standing) (count : ℕ) → StandsAfter front meanings standing
    → log ≡ front ++ rest → count ≤ length front → HasNoBadPlaceWithin log count
no_place_within log front rest meanings standing count stands parts few line column place = elim (cases_lt count (length (ended_lines place.lines) + column)) [
  | inl behind ↦ behind
  | inr within ↦ absurd (none_taken log front rest meanings standing line column stands parts place (omega arith))
]

-- nothing of it refuses the log, where no line that ended there announces too much
pub not_refused_within : (limit : ℕ) (settings : Settings) (log front rest : List ℕ) (meanings : List (Option Stamped)) (standing : Standing) (count : ℕ)
    → StandsAfter front meanings standing → log ≡ front ++ rest → count ≤ length front → EachWithin limit settings meanings → IsNotRefusedWithin limit settings log count
not_refused_within limit settings log front rest meanings standing count stands parts few each = record {
  no_bad_place = no_place_within log front rest meanings standing count stands parts few;
  no_oversize = λ line announced over. (let behind = none_announces limit settings log front rest meanings standing line announced stands parts each over in omega arith);
}
