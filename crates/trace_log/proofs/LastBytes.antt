-- Whether the last byte of a log is a line feed, by how a scanner stands after it.
use Prim.Native.Char.{code}
use Rattle.std.proofs.Common.{◌≡◌, ℕ, ◌<◌, Bool, true, false, nat_lt, List, [], ◌∷◌, ◌++◌, length, arith, refl, ap, sym, subst, ◌∙◌, ◌⊎◌, inl, inr, Option, Some, None, append-nil}
use Rattle.std.proofs.lemmas.Bool.{ne_eqb, lt-ltb}
use Rattle.std.specs.Prelude.{codes}
use Rattle.std.specs.List.{last_or}
use Rattle.can_log.specs.Log.{ended_lines}
use Rattle.can_log.specs.Refused.{NoLineFeed}
use Rattle.can_log.specs.Scanning.{Place, Standing, FinishesFrom, Finishes}
use Rattle.can_log.specs.WholeLog.{StandsAfter}
use Rattle.can_log.specs.declared.frame.Stamped.{Stamped}
use Rattle.can_log.specs.declared.scanner.Scan.{Scan}
use Rattle.can_log.specs.declared.scanner.Scan.TheVariants as scan
use Rattle.can_log.proofs.Promises.{completable_has_no_line_feed, lines_mean_as_many}
use Rattle.trace_log.specs.Summing.{is_line_feed, ends_in_line_feed}

-- a log that ends so
pub some_log : (feed : Bool) → (log : List ℕ) × (feed ≡ ends_in_line_feed log)
some_log true = (codes "\n", refl)
some_log false = ([], refl)

last-append : (o : Option ℕ) (xs ys : List ℕ) → last_or o (xs ++ ys) ≡ last_or (last_or o xs) ys
last-append o [] ys = refl
last-append o (x ∷ xs) ys = last-append (Some x) xs ys

-- after ended lines
ended_after : (lines : List (List ℕ)) → is_line_feed (last_or (Some (code "\n")) (ended_lines lines)) ≡ true
ended_after [] = refl
ended_after (line ∷ lines) =
    ap is_line_feed (last-append (Some (code "\n")) (line ++ codes "\n") (ended_lines lines))
    ∙ ap (λ o. is_line_feed (last_or o (ended_lines lines))) (last-append (Some (code "\n")) line (codes "\n")) ∙ ended_after lines

ended_by : (lines : List (List ℕ)) → nat_lt 0 (length lines) ≡ ends_in_line_feed (ended_lines lines)
ended_by [] = refl
ended_by (line ∷ lines) =
    lt-ltb 0 (length (line ∷ lines)) (omega arith)
    ∙ sym (ap is_line_feed (last-append None (line ++ codes "\n") (ended_lines lines))
    ∙ ap (λ o. is_line_feed (last_or o (ended_lines lines))) (last-append None line (codes "\n")) ∙ ended_after lines)

-- after some bytes without a line feed
not_ended : (o : Option ℕ) (bytes : List ℕ) → NoLineFeed bytes → 0 < length bytes → is_line_feed (last_or o bytes) ≡ false
not_ended o [] clean some = absurd (omega arith)
not_ended o (b ∷ []) clean some = ne_eqb b (code "\n") clean.0
not_ended o (b ∷ (c ∷ more)) clean some = not_ended (Some b) (c ∷ more) clean.1 (omega arith)

-- the last line has no line feed
pub no_feed_behind : (log : List ℕ) (meanings : List (Option Stamped)) (old new : Standing) (used line : ℕ) (what : Option Stamped) → StandsAfter log meanings old
    → Finishes old (scan.Line used line what) new → false ≡ ends_in_line_feed log
no_feed_behind log meanings old new used line what stands finishes =
    let some = some_left old.refused stands.sound finishes in
    sym (ap ends_in_line_feed stands.parts ∙ ap is_line_feed (last-append None (ended_lines stands.lines) old.line)
    ∙ not_ended (last_or None (ended_lines stands.lines)) old.line (completable_has_no_line_feed old.line stands.legal) some)
  where
    some_left : (r : Option Place) → r ≡ None → FinishesFrom r old (scan.Line used line what) new → 0 < length old.line
    some_left None sound ends = ends.0
    some_left (Some place) sound ends = absurd (cc sound)

-- no bytes are left behind the lines that ended: the last one is a line feed where there are lines
pub feed_behind : (log : List ℕ) (meanings : List (Option Stamped)) (old new : Standing) (answer : Scan) → StandsAfter log meanings old → Finishes old answer new
    → (answer ≡ scan.NeedMore) ⊎ (answer ≡ scan.End) → (nat_lt 0 new.lines) ≡ ends_in_line_feed log
feed_behind log meanings old new answer stands finishes (inl waits) = by old.refused stands.sound (subst (λ a. Finishes old a new) waits finishes)
  where
    by : (r : Option Place) → r ≡ None → FinishesFrom r old scan.NeedMore new → (nat_lt 0 new.lines) ≡ ends_in_line_feed log
    by None sound ends = absurd ends
    by (Some place) sound ends = absurd (cc sound)
feed_behind log meanings old new answer stands finishes (inr over) = by old.refused stands.sound (subst (λ a. Finishes old a new) over finishes)
  where
    by : (r : Option Place) → r ≡ None → FinishesFrom r old scan.End new → (nat_lt 0 new.lines) ≡ ends_in_line_feed log
    by None sound (empty, same) =
        ap (λ (s : Standing). nat_lt 0 s.lines) same ∙ ap (nat_lt 0) (stands.counted ∙ sym (lines_mean_as_many stands.lines meanings stands.means)) ∙ ended_by stands.lines
        ∙ sym (ap ends_in_line_feed (stands.parts ∙ ap (λ x. ended_lines stands.lines ++ x) empty ∙ append-nil (ended_lines stands.lines)))
    by (Some place) sound ends = absurd (cc sound)
