-- The refused place of a log: there is one at most, and none where the log means something.
use Prim.Native.Char.{code}
use Rattle.std.proofs.Common.{◌≡◌, ℕ, ◌+◌, arith, refl, sym, ap, subst, ◌∙◌, inl, inr}
use Rattle.std.proofs.Common.{List, [], ◌∷◌, ◌++◌, length, Option, None}
use Rattle.can_log.specs.declared.frame.Stamped.{Stamped}
use Rattle.can_log.specs.Line.{LineMeans}
use Rattle.can_log.specs.Refused.{NoLineFeed}
use Rattle.can_log.specs.Log.{log_lines, LinesMean, LogMeans, ended_lines, IsRefusedRest, IsRefusedIn}
use Rattle.can_log.specs.Laws.{RefusedPlaceIsOne, RefusedLogHasNoMeanings}
use Rattle.can_log.specs.LogLaws.{last_line, RefusedLines, RefusedLineIsNoLine}
use Rattle.can_log.proofs.LineFeeds.{first_line, same_line, line_clean, lines_clean}
use Rattle.can_log.proofs.LogLines.{ended_lines-first, log_lines-ended, log_lines-rest, log_lines-behind, mean_apart}
use Rattle.can_log.proofs.RefusedPlaces.{end_is_one, no_line_first, no_line_last, place_within, place_in_first}

-- ---- there is one at most

-- lines that are ended and mean something, and then something that is refused
record Cut (log : List ℕ) (lines : List (List ℕ)) (meanings : List (Option Stamped)) (rest : List ℕ) (column : ℕ) : Type 0 where
  pub parts : log ≡ ended_lines lines ++ rest
  pub means : LinesMean lines meanings
  pub ends : IsRefusedRest rest column

cut_of : {log : List ℕ} {line column : ℕ} → (r : IsRefusedIn log line column) → Cut log r.lines r.meanings r.rest column
cut_of r = record { parts = r.parts; means = r.legal; ends = r.here }

-- no cut is where another one has a line
no_line_more : (log line : List ℕ) (lines : List (List ℕ)) (what : Option Stamped) (meanings : List (Option Stamped)) (rest rest2 : List ℕ) (column column2 : ℕ)
    → log ≡ rest → IsRefusedRest rest column → Cut log (line ∷ lines) (what ∷ meanings) rest2 column2 → ⊥
no_line_more log line lines what meanings rest rest2 column column2 e ends c =
    no_line_first rest column line (ended_lines lines ++ rest2) what ends c.means.0 (sym e ∙ c.parts ∙ ended_lines-first line lines rest2)

same_cut : (log : List ℕ) (lines lines2 : List (List ℕ)) (meanings whats2 : List (Option Stamped)) (rest rest2 : List ℕ) (column column2 : ℕ)
    → Cut log lines meanings rest column → Cut log lines2 whats2 rest2 column2 → (lines ≡ lines2) × (rest ≡ rest2)
same_cut log [] [] meanings whats2 rest rest2 column column2 c d = (refl, sym c.parts ∙ d.parts)
same_cut log [] (line ∷ lines2) meanings [] rest rest2 column column2 c d = absurd d.means
same_cut log [] (line ∷ lines2) meanings (what ∷ whats2) rest rest2 column column2 c d =
    absurd (no_line_more log line lines2 what whats2 rest rest2 column column2 c.parts c.ends d)
same_cut log (line ∷ lines) [] [] whats2 rest rest2 column column2 c d = absurd c.means
same_cut log (line ∷ lines) [] (what ∷ meanings) whats2 rest rest2 column column2 c d =
    absurd (no_line_more log line lines what meanings rest2 rest column2 column d.parts d.ends c)
same_cut log (line ∷ lines) (line2 ∷ lines2) [] whats2 rest rest2 column column2 c d = absurd c.means
same_cut log (line ∷ lines) (line2 ∷ lines2) (what ∷ meanings) [] rest rest2 column column2 c d = absurd d.means
same_cut log (line ∷ lines) (line2 ∷ lines2) (what ∷ meanings) (what2 ∷ whats2) rest rest2 column column2 c d =
    let behind = ended_lines lines ++ rest in
    let behind2 = ended_lines lines2 ++ rest2 in
    let one = same_line line behind line2 behind2 (line_clean line what c.means.0) (line_clean line2 what2 d.means.0)
    (sym (ended_lines-first line lines rest) ∙ sym c.parts ∙ d.parts ∙ ended_lines-first line2 lines2 rest2) in
    let more = same_cut behind lines lines2 meanings whats2 rest rest2 column column2
    (record { parts = refl; means = c.means.1; ends = c.ends }) (record { parts = one.1; means = d.means.1; ends = d.ends }) in
    (ap (λ (z : List ℕ). z ∷ lines) one.0 ∙ ap (λ (z : List (List ℕ)). line2 ∷ z) more.0, more.1)

-- the lines before it are the same
pub lines_before_are_one : (log : List ℕ) (line column line2 column2 : ℕ) → (r : IsRefusedIn log line column) → (t : IsRefusedIn log line2 column2) → r.lines ≡ t.lines
lines_before_are_one log line column line2 column2 r t = (same_cut log r.lines t.lines r.meanings t.meanings r.rest t.rest column column2 (cut_of r) (cut_of t)).0

-- A log has at most one refused place.
pub refused_place_is_one : RefusedPlaceIsOne
refused_place_is_one log line column line2 column2 r t =
    let same = same_cut log r.lines t.lines r.meanings t.meanings r.rest t.rest column column2 (cut_of r) (cut_of t) in (
      r.at ∙ ap (λ (z : List (List ℕ)). length z + 1) same.0 ∙ sym t.at,
      end_is_one t.rest column column2 (subst (λ (z : List ℕ). IsRefusedRest z column) same.1 r.here) t.here,
    )

-- ---- a refused log has no meaning

-- a refused log has no meanings
ends_mean_nothing : (rest : List ℕ) (column : ℕ) (meanings : List (Option Stamped)) → IsRefusedRest rest column → LogMeans rest meanings → ⊥
ends_mean_nothing rest column meanings ends means = elim (first_line rest) [
  | inl (line, more, e, clean) ↦ first line more e meanings (subst (λ (z : List (List ℕ)). LinesMean z meanings) (ap log_lines e ∙ log_lines-ended line more clean) means)
  | inr clean ↦ last rest refl clean
]
  where
    first : (line more : List ℕ) → rest ≡ line ++ code "\n" ∷ more → (meanings : List (Option Stamped)) → LinesMean (line ∷ log_lines more) meanings → ⊥
    first line more e [] m = m
    first line more e (what ∷ meanings) m = no_line_first rest column line more what ends m.0 e

    only : (line : List ℕ) (meanings : List (Option Stamped)) → rest ≡ line → LinesMean (line ∷ []) meanings → ⊥
    only line [] e m = m
    only line (what ∷ meanings) e m = no_line_last rest column what ends (subst (λ (z : List ℕ). LineMeans z what) (sym e) m.0)

    last : (bytes : List ℕ) → rest ≡ bytes → NoLineFeed bytes → ⊥
    last [] e clean = no_line_last rest column None ends (inl e)
    last (b ∷ bytes) e clean =
        only (b ∷ bytes) meanings e (subst (λ (z : List (List ℕ)). LinesMean z meanings) (ap log_lines e ∙ log_lines-rest (b ∷ bytes) clean) means)

-- the lines of a log after lines that are ended and mean something
pub lines_first : (lines : List (List ℕ)) (meanings : List (Option Stamped)) (rest : List ℕ) → LinesMean lines meanings
    → log_lines (ended_lines lines ++ rest) ≡ lines ++ log_lines rest
lines_first lines meanings rest means = log_lines-behind lines rest (lines_clean lines meanings means)

-- The lines of a refused log are those before its refused place, and then those of the rest.
pub refused_lines : RefusedLines
refused_lines log line column r = ap log_lines r.parts ∙ lines_first r.lines r.meanings r.rest r.legal

-- A refused log has no meaning.
pub refused_log_has_no_meanings : RefusedLogHasNoMeanings
refused_log_has_no_meanings log line column meanings r m =
    let lines = refused_lines log line column r in
    let parts = mean_apart r.lines (log_lines r.rest) meanings (subst (λ (z : List (List ℕ)). LinesMean z meanings) lines m) in
    ends_mean_nothing r.rest column parts.1 r.here parts.4

-- ---- the line that is refused

only_line : (rest line : List ℕ) (later : List (List ℕ)) → last_line rest ≡ line ∷ later → rest ≡ line
only_line [] line later is = absurd (cc)
only_line (b ∷ rest) line later is = cc

-- The first line of the rest is no line, and the place is in it or after it.
pub refused_line_is_no_line : RefusedLineIsNoLine
refused_line_is_no_line rest column line later refused is = elim (first_line rest) [
  | inl (first, more, e, clean) ↦
      let both : first ∷ log_lines more ≡ line ∷ later = sym (ap log_lines e ∙ log_lines-ended first more clean) ∙ is in
      let same : first ≡ line = cc in
      let parts : rest ≡ line ++ code "\n" ∷ more = e ∙ ap (λ (z : List ℕ). z ++ code "\n" ∷ more) same in (
        λ what means. no_line_first rest column line more what refused means parts,
        place_in_first line more column (subst (λ (z : List ℕ). IsRefusedRest z column) parts refused),
      )
  | inr clean ↦
      let same : rest ≡ line = only_line rest line later (sym (log_lines-rest rest clean) ∙ is) in (
        λ what means. no_line_last rest column what refused (subst (λ (z : List ℕ). LineMeans z what) (sym same) means),
        omega (arith, place_within rest column refused, ap (λ (z : List ℕ). length z) same),
      )
]
