-- A log is legal, or it has a refused place.
use Prim.Native.Char.{code}
use Rattle.std.proofs.Common.{◌≡◌, ℕ, zero, suc, ◌+◌, ◌-◌, ◌≤◌, refl, sym, ap, subst, ◌∙◌, arith, inl, inr, ◌⊎◌}
use Rattle.std.proofs.Common.{List, [], ◌∷◌, ◌++◌, length, append_assoc, length-append, Option, Ok, Err}
use Rattle.std.specs.Prelude.{codes}
use Rattle.can_log.specs.declared.frame.Stamped.{Stamped}
use Rattle.can_log.specs.proving.FieldReader.{FieldRead, short, refused}
use Rattle.can_log.specs.proving.LineReader.{line_at, meaning_by}
use Rattle.can_log.specs.Line.{Parts, LineMeans, IsNoLine}
use Rattle.can_log.specs.Refused.{NoLineFeed, HasCompletion, IsRefusedPlace}
use Rattle.can_log.specs.Log.{log_lines, LinesMean, LogMeans, IsRefusedRest, IsRefusedIn}
use Rattle.can_log.specs.Laws.{LineOrNoLine, LogIsLegalOrRefused}
use Rattle.can_log.proofs.LineReads.{read_means, means_read, short_becomes, refused_first}
use Rattle.can_log.proofs.LineFeeds.{first_line}
use Rattle.can_log.proofs.LineLength.{column_of_rest}
use Rattle.can_log.proofs.LogLines.{ended_lines-first, log_lines-ended, log_lines-rest}
use Rattle.can_log.proofs.RefusedPlaces.{place_of, place_end, place_extends, unfinished}

-- ---- a line

-- the bytes of a line mean something, or one of them is refused, or they end too early
data Kinds (bytes : List ℕ) : Type 0 where
  meant : (what : Option Stamped) → LineMeans bytes what → Kinds bytes
  refused_at : (column : ℕ) → IsRefusedPlace bytes column → Kinds bytes
  too_short : HasCompletion bytes → IsNoLine bytes → Kinds bytes

kind_of_line : (bytes : List ℕ) → NoLineFeed bytes → Kinds bytes
kind_of_line bytes clean = by (line_at bytes) refl
  where
    by : (r : FieldRead (Option Parts)) → line_at bytes ≡ r → Kinds bytes
    by (Ok x) e = meant (meaning_by x.0) (read_means bytes x.0 x.1 e)
    by (Err short) e = too_short (short_becomes bytes e) (λ what m. cc (e, (means_read bytes what m).1))
    by (Err (refused rest)) e =
        let column = length bytes - length rest + 1 in
        refused_at column (place_of bytes column clean (column_of_rest bytes rest (refused_first bytes rest e)).1)

pub line_or_no_line : LineOrNoLine
line_or_no_line bytes = by (line_at bytes) refl
  where
    by : (r : FieldRead (Option Parts)) → line_at bytes ≡ r → ((what : Option Stamped) × LineMeans bytes what) ⊎ IsNoLine bytes
    by (Ok x) e = inl (meaning_by x.0, read_means bytes x.0 x.1 e)
    by (Err why) e = inr (λ what m. cc (e, (means_read bytes what m).1))

-- ---- a log

abbrev Legal : List ℕ → Type 0
Legal log = (meanings : List (Option Stamped)) × LogMeans log meanings

abbrev Refused : List ℕ → Type 0
Refused log = (line : ℕ) × (column : ℕ) × IsRefusedIn log line column

at_once : (log : List ℕ) (column : ℕ) → IsRefusedRest log column → Legal log ⊎ Refused log
at_once log column ends = inr (1, column, record { lines = []; meanings = []; rest = log; parts = refl; legal = tt; at = refl; here = ends })

behind_line : (log line more : List ℕ) (what : Option Stamped) → log ≡ line ++ code "\n" ∷ more → NoLineFeed line → LineMeans line what
    → Legal more ⊎ Refused more → Legal log ⊎ Refused log
behind_line log line more what e clean means (inl (meanings, rest)) =
    inl (what ∷ meanings, subst (λ (z : List (List ℕ)). LinesMean z (what ∷ meanings)) (sym (ap log_lines e ∙ log_lines-ended line more clean)) (means, rest))
behind_line log line more what e clean means (inr (number, column, r)) =
    inr (
      number + 1,
      column,
      record {
        lines = line ∷ r.lines;
        meanings = what ∷ r.meanings;
        rest = r.rest;
        parts = e ∙ ap (λ (z : List ℕ). line ++ code "\n" ∷ z) r.parts ∙ sym (ended_lines-first line r.lines r.rest);
        legal = (means, r.legal);
        at = ap (λ (n : ℕ). n + 1) r.at ∙ omega arith;
        here = r.here;
      },
    )

-- of the last line, without a line feed
last_kind : (b : ℕ) (bytes : List ℕ) → NoLineFeed (b ∷ bytes) → Kinds (b ∷ bytes) → Legal (b ∷ bytes) ⊎ Refused (b ∷ bytes)
last_kind b bytes clean (meant what means) =
    inl (what ∷ [], subst (λ (z : List (List ℕ)). LinesMean z (what ∷ [])) (sym (log_lines-rest (b ∷ bytes) clean)) (means, tt))
last_kind b bytes clean (refused_at column place) = at_once (b ∷ bytes) column (inl place)
last_kind b bytes clean (too_short legal nothing) =
    at_once (b ∷ bytes) (length (b ∷ bytes) + 1) (inr (unfinished (b ∷ bytes) (length (b ∷ bytes)) refl legal nothing))

-- of a line with its line feed
first_kind : (log line more : List ℕ) → log ≡ line ++ code "\n" ∷ more → NoLineFeed line → Legal more ⊎ Refused more → Kinds line → Legal log ⊎ Refused log
first_kind log line more e clean rest (meant what means) = behind_line log line more what e clean means rest
first_kind log line more e clean rest (refused_at column place) =
    at_once log column (inl (subst (λ (z : List ℕ). IsRefusedPlace z column) (sym e) (place_extends line (code "\n" ∷ more) column place)))
first_kind log line more e clean rest (too_short legal nothing) =
    let place = place_extends (line ++ codes "\n") more (length line + 1) (place_end line legal nothing) in
    let whole : (line ++ codes "\n") ++ more ≡ log = append_assoc line (codes "\n") more ∙ sym e in
    at_once log (length line + 1) (inl (subst (λ (z : List ℕ). IsRefusedPlace z (length line + 1)) whole place))

legal_within : (most : ℕ) (log : List ℕ) → length log ≤ most → Legal log ⊎ Refused log
legal_within most [] few = inl ([], tt)
legal_within zero (b ∷ bytes) few = absurd (omega arith)
legal_within (suc most) (b ∷ bytes) few = elim (first_line (b ∷ bytes)) [
  | inl (line, more, e, clean) ↦
      let shorter : length more ≤ most = omega (arith, ap (λ (z : List ℕ). length z) e, length-append line (code "\n" ∷ more)) in
      first_kind (b ∷ bytes) line more e clean (legal_within most more shorter) (kind_of_line line clean)
  | inr clean ↦ last_kind b bytes clean (kind_of_line (b ∷ bytes) clean)
]

pub legal_or_refused : LogIsLegalOrRefused
legal_or_refused log = legal_within (length log) log (omega arith)
