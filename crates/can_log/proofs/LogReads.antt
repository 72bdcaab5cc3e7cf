-- What a scanner's answers tell of the log that its pieces make.
use Rattle.std.proofs.Common.{◌≡◌, ℕ, ◌+◌, ◌<◌, ◌≤◌, refl, sym, ap, subst, ◌∙◌, arith, inl, inr, ◌⊎◌}
use Rattle.std.proofs.Common.{List, [], ◌∷◌, ◌++◌, length, take, drop, append_assoc, length-append, Option, None}
use Rattle.std.specs.Prelude.{codes}
use Rattle.std.specs.List.{concat}
use Rattle.std.proofs.lemmas.List.{append-nil, take_at, take-append-drop, length-take-le}
use Rattle.can_log.specs.declared.frame.Stamped.{Stamped}
use Rattle.can_log.specs.declared.scanner.Scan.{Scan}
use Rattle.can_log.specs.declared.scanner.Scan.TheVariants as scan
use Rattle.can_log.specs.Refused.{NoLineFeed}
use Rattle.can_log.specs.Log.{log_lines, LinesMean, LogMeans, ended_lines}
use Rattle.can_log.specs.Scanning.{Standing, Scans, ScansOn, ScansFrom, Finishes, FinishesOn, FinishesFrom}
use Rattle.can_log.specs.WholeLog.{at_start, StandsAfter, IsRefusedBehind, ReadsOn, ReadsEnd, ScansAll, Told, line, refused, report_of, lines_from}
use Rattle.can_log.specs.Laws.{LogMeansAtMostOne, StartStands, ScanReadsOn, FinishReadsEnd, ScanningReadsTheLog, LogTellsOne}
use Rattle.can_log.proofs.Lists.{parts_more}
use Rattle.can_log.proofs.LineReads.{one_meaning, empty_legal}
use Rattle.can_log.proofs.LineFeeds.{line_clean}
use Rattle.can_log.proofs.LogLines.{ended_lines-last, log_lines-rest, same_length, mean_together}
use Rattle.can_log.proofs.RefusedPlaces.{place_extends, place_inside}
use Rattle.can_log.proofs.RefusedLogs.{lines_first, lines_before_are_one, refused_place_is_one, refused_log_has_no_meanings}

-- ---- one answer

scans_on : (old new : Standing) (piece : List ℕ) (answer : Scan) → old.refused ≡ None → Scans old piece answer new → ScansOn old piece answer new
scans_on old new piece answer e s = subst (λ (r : _). ScansFrom r old piece answer new) e s

finishes_on : (old new : Standing) (answer : Scan) → old.refused ≡ None → Finishes old answer new → FinishesOn old answer new
finishes_on old new answer e s = subst (λ (r : _). FinishesFrom r old answer new) e s

pub start_stands : StartStands
start_stands = record { lines = []; parts = refl; means = tt; legal = empty_legal; counted = refl; taken = refl; sound = refl }

pub scan_reads_on : ScanReadsOn
scan_reads_on bytes meanings piece old new answer stands scans = by answer (scans_on old new piece answer stands.sound scans)
  where
    number : old.lines + 1 ≡ length meanings + 1
    number = ap (λ (n : ℕ). n + 1) stands.counted

    by : (answer : Scan) → ScansOn old piece answer new → ReadsOn bytes meanings piece answer new
    by scan.NeedMore (clean, legal, is) = subst (StandsAfter (bytes ++ piece) meanings) (sym is) (record {
      lines = stands.lines;
      parts = parts_more (ended_lines stands.lines) old.line stands.parts piece;
      means = stands.means;
      legal = legal;
      counted = stands.counted;
      taken = omega (arith, stands.taken, length-append bytes piece);
      sound = stands.sound;
    })
    by (scan.Line used n what) (front, after, parts, clean, len, n_is, means, is) =
        let whole : piece ≡ (front ++ codes "\n") ++ after = parts ∙ sym (append_assoc front (codes "\n") after) in
        let front_len : length (front ++ codes "\n") ≡ used = omega (arith, length-append front (codes "\n"), len) in
        let taken : take used piece ≡ front ++ codes "\n" = ap (take used) whole ∙ take_at (front ++ codes "\n") after used front_len in
        let fits : used ≤ length piece = omega (arith, front_len, ap (λ (z : List ℕ). length z) whole, length-append (front ++ codes "\n") after) in
        let ended : bytes ++ take used piece ≡ ended_lines (stands.lines ++ (old.line ++ front) ∷ []) ++ [] =
        ap (λ (z : List ℕ). bytes ++ z) taken ∙ parts_more (ended_lines stands.lines) old.line stands.parts (front ++ codes "\n")
        ∙ ap (λ (z : List ℕ). ended_lines stands.lines ++ z) (sym (append_assoc old.line front (codes "\n")))
        ∙ sym (ended_lines-last stands.lines (old.line ++ front)) ∙ sym (append-nil _)
        in (
          fits,
          n_is ∙ number,
          subst (StandsAfter (bytes ++ take used piece) (meanings ++ what ∷ [])) (sym is) (record {
            lines = stands.lines ++ (old.line ++ front) ∷ [];
            parts = ended;
            means = mean_together stands.lines ((old.line ++ front) ∷ []) meanings (what ∷ []) stands.means (means, tt);
            legal = empty_legal;
            counted = n_is ∙ number ∙ sym (length-append meanings (what ∷ []));
            taken = omega (arith, stands.taken, length-append bytes (take used piece), length-take-le used piece fits);
            sound = stands.sound;
          }),
        )
    by (scan.Bad n column) (n_is, place, is) = λ more. (
      record {
        lines = stands.lines;
        meanings = meanings;
        rest = (old.line ++ piece) ++ more;
        parts = parts_more (ended_lines stands.lines) old.line stands.parts (piece ++ more) ∙ ap (λ (z : List ℕ). ended_lines stands.lines ++ z) (sym (append_assoc old.line piece more));
        legal = stands.means;
        at = n_is ∙ number ∙ ap (λ (n : ℕ). n + 1) (sym (same_length stands.lines meanings stands.means));
        here = inl (place_extends (old.line ++ piece) more column place);
      },
      refl,
      omega (
        arith,
        place_inside (old.line ++ piece) column place,
        length-append old.line piece,
        ap (λ (z : List ℕ). length z) stands.parts,
        length-append (ended_lines stands.lines) old.line,
      ),
    )
    by scan.End s = s

pub finish_reads_end : FinishReadsEnd
finish_reads_end log meanings old new answer stands finishes = by answer (finishes_on old new answer stands.sound finishes)
  where
    number : old.lines + 1 ≡ length meanings + 1
    number = ap (λ (n : ℕ). n + 1) stands.counted

    lines_are : (more : List (List ℕ)) → log_lines old.line ≡ more → log_lines log ≡ stands.lines ++ more
    lines_are more e = ap log_lines stands.parts ∙ lines_first stands.lines meanings old.line stands.means ∙ ap (λ (z : List (List ℕ)). stands.lines ++ z) e

    alone : (bytes : List ℕ) → NoLineFeed bytes → 0 < length bytes → log_lines bytes ≡ bytes ∷ []
    alone [] clean some = absurd (omega arith)
    alone (b ∷ bytes) clean some = log_lines-rest (b ∷ bytes) clean

    by : (answer : Scan) → FinishesOn old answer new → ReadsEnd log meanings answer
    by scan.NeedMore s = s
    by (scan.Line used n what) (some, none, n_is, means, is) =
        let lines = lines_are (old.line ∷ []) (alone old.line (line_clean old.line what means) some) in
        let all = mean_together stands.lines (old.line ∷ []) meanings (what ∷ []) stands.means (means, tt) in
        (n_is ∙ number, subst (λ (z : List (List ℕ)). LinesMean z (meanings ++ what ∷ [])) (sym lines) all)
    by (scan.Bad n column) (some, n_is, unfinished, is) = (
      record {
        lines = stands.lines;
        meanings = meanings;
        rest = old.line;
        parts = stands.parts;
        legal = stands.means;
        at = n_is ∙ number ∙ ap (λ (n : ℕ). n + 1) (sym (same_length stands.lines meanings stands.means));
        here = inr unfinished;
      },
      refl,
    )
    by scan.End (none, is) =
        subst (λ (z : List (List ℕ)). LinesMean z meanings) (sym (lines_are [] (ap log_lines none) ∙ append-nil stands.lines)) stands.means

-- ---- all answers

-- what is still to be told after lines that mean this
abbrev TellsRest : List (Option Stamped) → List ℕ → List Told → Type 0
TellsRest meanings log report =
    ((more : List (Option Stamped)) × LogMeans log (meanings ++ more) × (report ≡ lines_from (length meanings + 1) more))
    ⊎ ((number : ℕ) × (column : ℕ) × (more : List (Option Stamped)) × IsRefusedBehind (meanings ++ more) log number column
    × (report ≡ lines_from (length meanings + 1) more ++ refused number column ∷ []))

tells_end : (log : List ℕ) (meanings : List (Option Stamped)) (last : Scan) → ReadsEnd log meanings last → TellsRest meanings log (report_of (last ∷ []))
tells_end log meanings scan.NeedMore r = absurd r
tells_end log meanings (scan.Line used n what) (n_is, means) = inl (what ∷ [], means, ap (λ (z : ℕ). line z what ∷ []) n_is)
tells_end log meanings (scan.Bad n column) place = inr (n, column, [], subst (λ (z : List (Option Stamped)). IsRefusedBehind z log n column) (sym (append-nil meanings)) place, refl)
tells_end log meanings scan.End means = inl ([], subst (λ (z : List (Option Stamped)). LogMeans log z) (sym (append-nil meanings)) means, refl)

-- a line more in front
tells_line : (log : List ℕ) (meanings : List (Option Stamped)) (what : Option Stamped) (n : ℕ) (report : List Told) → n ≡ length meanings + 1
    → TellsRest (meanings ++ what ∷ []) log report → TellsRest meanings log (line n what ∷ report)
tells_line log meanings what n report n_is rest = elim rest [
  | inl (more, means, is) ↦
      inl (
        what ∷ more,
        subst (λ (z : List (Option Stamped)). LogMeans log z) (append_assoc meanings (what ∷ []) more) means,
        first ∙ ap (λ (z : List Told). line (length meanings + 1) what ∷ z) (is ∙ next more),
      )
  | inr (number, column, more, place, is) ↦
      inr (
        number,
        column,
        what ∷ more,
        subst (λ (z : List (Option Stamped)). IsRefusedBehind z log number column) (append_assoc meanings (what ∷ []) more) place,
        first ∙ ap (λ (z : List Told). line (length meanings + 1) what ∷ z) (is ∙ ap (λ (z : List Told). z ++ refused number column ∷ []) (next more)),
      )
]
  where
    first : line n what ∷ report ≡ line (length meanings + 1) what ∷ report
    first = ap (λ (z : ℕ). line z what ∷ report) n_is

    next : (more : List (Option Stamped)) → lines_from (length (meanings ++ what ∷ []) + 1) more ≡ lines_from (length meanings + 1 + 1) more
    next more = ap (λ (z : ℕ). lines_from z more) (omega (arith, length-append meanings (what ∷ [])))

tells_all : (answers : List Scan) (pieces : List (List ℕ)) (bytes : List ℕ) (meanings : List (Option Stamped)) (old between new : Standing) (last : Scan)
    → StandsAfter bytes meanings old → ScansAll old pieces answers between → Finishes between last new
    → TellsRest meanings (bytes ++ concat pieces) (report_of (answers ++ last ∷ []))
tells_all [] [] bytes meanings old between new last stands is finishes =
    subst (λ (z : List ℕ). TellsRest meanings z (report_of (last ∷ []))) (sym (append-nil bytes))
    (tells_end bytes meanings last (finish_reads_end bytes meanings between new last (subst (StandsAfter bytes meanings) (sym is) stands) finishes))
tells_all [] (piece ∷ pieces) bytes meanings old between new last stands s finishes = absurd s
tells_all (answer ∷ answers) [] bytes meanings old between new last stands s finishes = absurd s
tells_all (scan.NeedMore ∷ answers) (piece ∷ pieces) bytes meanings old between new last stands (next, s, more) finishes =
    subst (λ (z : List ℕ). TellsRest meanings z (report_of (answers ++ last ∷ []))) (append_assoc bytes piece (concat pieces))
    (tells_all answers pieces (bytes ++ piece) meanings next between new last (scan_reads_on bytes meanings piece old next scan.NeedMore stands s) more finishes)
tells_all (scan.Line used n what ∷ answers) (piece ∷ pieces) bytes meanings old between new last stands (next, s, more) finishes =
    let step = scan_reads_on bytes meanings piece old next (scan.Line used n what) stands s in
    let same : (bytes ++ take used piece) ++ (drop used piece ++ concat pieces) ≡ bytes ++ (piece ++ concat pieces) =
    append_assoc bytes (take used piece) (drop used piece ++ concat pieces)
    ∙ ap (λ (z : List ℕ). bytes ++ z) (sym (parts_more (take used piece) (drop used piece) (sym (take-append-drop used piece)) (concat pieces)))
    in
    tells_line (bytes ++ (piece ++ concat pieces)) meanings what n (report_of (answers ++ last ∷ [])) step.1
    (subst (λ (z : List ℕ). TellsRest (meanings ++ what ∷ []) z (report_of (answers ++ last ∷ []))) same
    (tells_all answers (drop used piece ∷ pieces) (bytes ++ take used piece) (meanings ++ what ∷ []) next between new last step.2 more finishes))
tells_all (scan.Bad n column ∷ answers) (piece ∷ pieces) bytes meanings old between new last stands (next, s, more) finishes =
    let place = scan_reads_on bytes meanings piece old next (scan.Bad n column) stands s (concat pieces) in
    inr (n, column, [], subst (λ (z : List (Option Stamped)). IsRefusedBehind z (bytes ++ (piece ++ concat pieces)) n column) (sym (append-nil meanings)) (place.0, place.1), refl)
tells_all (scan.End ∷ answers) (piece ∷ pieces) bytes meanings old between new last stands (next, s, more) finishes =
    absurd (scan_reads_on bytes meanings piece old next scan.End stands s)

pub scanning_reads_the_log : ScanningReadsTheLog
scanning_reads_the_log pieces answers last between new scans finishes = elim (tells_all answers pieces [] [] at_start between new last start_stands scans finishes) [
  | inl told_all ↦ inl told_all
  | inr (number, column, more, place, is) ↦
      inr (number, column, place.0, is ∙ ap (λ (z : List (Option Stamped)). lines_from 1 z ++ refused number column ∷ []) (sym place.1))
]

-- ---- how the log is cut does not matter

lines_mean_one : (lines : List (List ℕ)) (meanings others : List (Option Stamped)) → LinesMean lines meanings → LinesMean lines others → meanings ≡ others
lines_mean_one [] [] [] m n = refl
lines_mean_one [] [] (other ∷ others) m n = absurd n
lines_mean_one [] (what ∷ meanings) others m n = absurd m
lines_mean_one (first ∷ lines) [] others m n = absurd m
lines_mean_one (first ∷ lines) (what ∷ meanings) [] m n = absurd n
lines_mean_one (first ∷ lines) (what ∷ meanings) (other ∷ others) m n =
    ap (λ (z : Option Stamped). z ∷ meanings) (one_meaning first what other m.0 n.0)
    ∙ ap (λ (z : List (Option Stamped)). other ∷ z) (lines_mean_one lines meanings others m.1 n.1)

pub log_means_at_most_one : LogMeansAtMostOne
log_means_at_most_one log = lines_mean_one (log_lines log)

pub log_tells_one : LogTellsOne
log_tells_one log report other (inl (meanings, means, is)) (inl (whats2, means2, is2)) =
    is ∙ ap (lines_from 1) (lines_mean_one (log_lines log) meanings whats2 means means2) ∙ sym is2
log_tells_one log report other (inl (meanings, means, is)) (inr (n, column, place, is2)) =
    absurd (refused_log_has_no_meanings log n column meanings place means)
log_tells_one log report other (inr (n, column, place, is)) (inl (meanings, means, is2)) =
    absurd (refused_log_has_no_meanings log n column meanings place means)
log_tells_one log report other (inr (n, column, place, is)) (inr (n2, column2, place2, is2)) =
    let at = refused_place_is_one log n column n2 column2 place place2 in
    let lines = lines_before_are_one log n column n2 column2 place place2 in
    let meanings = lines_mean_one place2.lines place.meanings place2.meanings (subst (λ (z : List (List ℕ)). LinesMean z place.meanings) lines place.legal) place2.legal in
    is ∙ ap (λ (z : List (Option Stamped)). lines_from 1 z ++ refused n column ∷ []) meanings
    ∙ ap (λ (z : ℕ). lines_from 1 place2.meanings ++ refused z column ∷ []) at.0
    ∙ ap (λ (z : ℕ). lines_from 1 place2.meanings ++ refused n2 z ∷ []) at.1 ∙ sym is2
