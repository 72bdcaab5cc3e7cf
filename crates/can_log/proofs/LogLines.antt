-- How a log is cut into lines, and what lines in a row mean.
use Prim.Native.Char.{code}
use Rattle.std.proofs.Common.{◌≡◌, ℕ, suc, Bool, true, false, refl, sym, ap, subst, ◌∙◌, arith}
use Rattle.std.proofs.Common.{List, [], ◌∷◌, ◌++◌, append_assoc, Option}
use Rattle.std.specs.Prelude.{◌==◌, ◌<◌, length, if◌then◌else◌, codes}
use Rattle.std.specs.List.{onto_first}
use Rattle.std.proofs.lemmas.Bool.{ne_eqb}
use Rattle.std.proofs.lemmas.List.{append-nil}
use Rattle.can_log.specs.declared.frame.Stamped.{Stamped}
use Rattle.can_log.specs.Line.{LineMeans}
use Rattle.can_log.specs.Refused.{NoLineFeed}
use Rattle.can_log.specs.Log.{log_lines, LinesMean, ended_lines}
use Rattle.can_log.specs.LogLaws.{last_line, LogLinesOfParts, LineFeedEndsLine, LogLinesGoOn, LinesMeanAsMany, LinesMeanOneMore, LinesMeanInParts, LinesAreLog, LineIsLog, LogsJoin}
use Rattle.can_log.proofs.Lists.{onto_first-append, length-onto_first}
use Rattle.can_log.proofs.LineFeeds.{lines_clean}

-- ---- lines with their line feeds

pub ended_lines-first : (line : List ℕ) (lines : List (List ℕ)) (more : List ℕ) → ended_lines (line ∷ lines) ++ more ≡ line ++ code "\n" ∷ (ended_lines lines ++ more)
ended_lines-first line lines more = simp append_assoc

pub ended_lines-last : (lines : List (List ℕ)) (last : List ℕ) → ended_lines (lines ++ last ∷ []) ≡ ended_lines lines ++ (last ++ codes "\n")
ended_lines-last [] last = append-nil (last ++ codes "\n")
ended_lines-last (first ∷ lines) last = rw (ended_lines-last lines last) (simp append_assoc)

-- ---- the lines of a log

-- a line ends at its line feed
pub log_lines-ended : LineFeedEndsLine
log_lines-ended [] more none = refl
log_lines-ended (b ∷ line) more none = rw (ne_eqb b (code "\n") none.0, log_lines-ended line more none.1) refl

-- the bytes of an unfinished line
pub log_lines-rest : (rest : List ℕ) → NoLineFeed rest → log_lines rest ≡ last_line rest
log_lines-rest [] none = refl
log_lines-rest (b ∷ []) none = rw (ne_eqb b (code "\n") none.0) refl
log_lines-rest (b ∷ c ∷ rest) none = rw (ne_eqb b (code "\n") none.0, log_lines-rest (c ∷ rest) none.1) refl

-- what follows lines that are ended
pub log_lines-behind : LogLinesGoOn
log_lines-behind [] rest none = refl
log_lines-behind (line ∷ lines) rest none =
    rw (ended_lines-first line lines rest, log_lines-ended line (ended_lines lines ++ rest) none.0, log_lines-behind lines rest none.1) refl

pub log_lines_of_parts : LogLinesOfParts
log_lines_of_parts lines rest none none_behind = log_lines-behind lines rest none ∙ ap (λ (z : List (List ℕ)). lines ++ z) (log_lines-rest rest none_behind)

-- ---- what lines in a row mean

pub same_length : LinesMeanAsMany
same_length [] [] mean = refl
same_length [] (what ∷ meanings) mean = absurd mean
same_length (line ∷ lines) [] mean = absurd mean
same_length (line ∷ lines) (what ∷ meanings) mean = ap suc (same_length lines meanings mean.1)

-- lines that mean something, each with its line feed
pub lines_are_log : LinesAreLog
lines_are_log lines meanings means =
    let none = lines_clean lines meanings means in
    let whole : log_lines (ended_lines lines) ≡ lines =
    ap log_lines (sym (append-nil (ended_lines lines))) ∙ log_lines-behind lines [] none ∙ append-nil lines in
    subst (λ (z : List (List ℕ)). LinesMean z meanings) (sym whole) means

pub mean_apart : (lines more : List (List ℕ)) (meanings : List (Option Stamped)) → LinesMean (lines ++ more) meanings
    → (front : List (Option Stamped)) × (back : List (Option Stamped)) × (meanings ≡ front ++ back) × LinesMean lines front × LinesMean more back
mean_apart [] more meanings mean = ([], meanings, refl, tt, mean)
mean_apart (line ∷ lines) more [] mean = absurd mean
mean_apart (line ∷ lines) more (what ∷ meanings) mean =
    let rest = mean_apart lines more meanings mean.1 in
    (what ∷ rest.0, rest.1, ap (λ (z : List (Option Stamped)). what ∷ z) rest.2, (mean.0, rest.3), rest.4)

pub mean_together : (lines more : List (List ℕ)) (front back : List (Option Stamped)) → LinesMean lines front → LinesMean more back
    → LinesMean (lines ++ more) (front ++ back)
mean_together [] more [] back mean next = next
mean_together [] more (what ∷ front) back mean next = absurd mean
mean_together (line ∷ lines) more [] back mean next = absurd mean
mean_together (line ∷ lines) more (what ∷ front) back mean next = (mean.0, mean_together lines more front back mean.1 next)

pub lines_mean_in_parts : LinesMeanInParts
lines_mean_in_parts lines more meanings =
    (mean_apart lines more meanings, λ parts. rw parts.2 (mean_together lines more parts.0 parts.1 parts.3 parts.4))

-- the last line apart
last_apart : (lines : List (List ℕ)) (meanings : List (Option Stamped)) (what : Option Stamped) → LinesMean lines (meanings ++ what ∷ [])
    → (front : List (List ℕ)) × (last : List ℕ) × (lines ≡ front ++ last ∷ []) × LinesMean front meanings × LineMeans last what
last_apart [] [] what mean = absurd mean
last_apart (line ∷ []) [] what mean = ([], line, refl, tt, mean.0)
last_apart (line ∷ other ∷ lines) [] what mean = absurd mean.1
last_apart [] (one ∷ meanings) what mean = absurd mean
last_apart (line ∷ lines) (one ∷ meanings) what mean =
    let rest = last_apart lines meanings what mean.1 in
    (line ∷ rest.0, rest.1, ap (λ (z : List (List ℕ)). line ∷ z) rest.2, (mean.0, rest.3), rest.4)

pub lines_mean_one_more : LinesMeanOneMore
lines_mean_one_more lines meanings what =
    (last_apart lines meanings what, λ parts. rw parts.2 (mean_together parts.0 (parts.1 ∷ []) meanings (what ∷ []) parts.3 (parts.4, tt)))

pub line_is_log : LineIsLog
line_is_log line what none means = rw (log_lines-ended line [] none) (means, tt)

-- ---- a log after another

length-log_lines : (bytes : List ℕ) → 0 < length (log_lines (bytes ++ codes "\n"))
length-log_lines [] = omega arith
length-log_lines (b ∷ bytes) = by_test (b == code "\n")
  where
    by_test : (t : Bool) → 0 < length (if t then ([] ∷ log_lines (bytes ++ codes "\n")) else onto_first b (log_lines (bytes ++ codes "\n")))
    by_test true = omega arith
    by_test false = length-onto_first b (log_lines (bytes ++ codes "\n"))

-- the lines on the two sides of a line feed
log_lines-feed : (bytes more : List ℕ) → log_lines (bytes ++ code "\n" ∷ more) ≡ log_lines (bytes ++ codes "\n") ++ log_lines more
log_lines-feed [] more = refl
log_lines-feed (b ∷ bytes) more = by_test (b == code "\n") (log_lines-feed bytes more)
  where
    by_test : (t : Bool) → log_lines (bytes ++ code "\n" ∷ more) ≡ log_lines (bytes ++ codes "\n") ++ log_lines more
        → (if t then ([] ∷ log_lines (bytes ++ code "\n" ∷ more)) else onto_first b (log_lines (bytes ++ code "\n" ∷ more)))
        ≡ (if t then ([] ∷ log_lines (bytes ++ codes "\n")) else onto_first b (log_lines (bytes ++ codes "\n"))) ++ log_lines more
    by_test true rest = ap (λ (z : List (List ℕ)). [] ∷ z) rest
    by_test false rest =
        ap (λ (z : List (List ℕ)). onto_first b z) rest ∙ onto_first-append b (log_lines (bytes ++ codes "\n")) (log_lines more) (length-log_lines bytes)

log_lines-ended_lines : (lines : List (List ℕ)) (more : List ℕ) → log_lines (ended_lines lines ++ more) ≡ log_lines (ended_lines lines) ++ log_lines more
log_lines-ended_lines [] more = refl
log_lines-ended_lines (line ∷ lines) more =
    let front : ended_lines (line ∷ lines) ≡ line ++ code "\n" ∷ ended_lines lines = simp append_assoc in
    let rest = log_lines-ended_lines lines more in
    rw (ended_lines-first line lines more, front, log_lines-feed line (ended_lines lines ++ more), log_lines-feed line (ended_lines lines), rest) (simp append_assoc)

pub logs_join : LogsJoin
logs_join lines more front back means next =
    rw (log_lines-ended_lines lines more) (mean_together (log_lines (ended_lines lines)) (log_lines more) front back means next)
