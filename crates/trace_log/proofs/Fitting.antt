-- What fits of a text, and that what a run has written at a fault is a front of the canonical log of the lines read.
use Rattle.std.proofs.Common.{◌≡◌, ℕ, ◌+◌, ◌-◌, ◌≤◌, Bool, true, false, List, [], ◌∷◌, ◌++◌, length, nat_le, arith, refl, ap, sym, subst, ◌∙◌}
use Rattle.std.proofs.Common.{append-nil, length-append}
use Rattle.std.specs.Prelude.{cond}
use Rattle.std.proofs.lemmas.Bool.{le-leb, leb-true}
use Rattle.std.proofs.Math.Nat.{le-min}
use Rattle.can_log.specs.Log.{log_lines, ended_lines}
use Rattle.can_log.proofs.Promises.{log_lines_of_parts}
use Rattle.uds_exchange.specs.Meaning.{flattened}
use Rattle.trace_log.specs.declared.fault.Fault.{Fault}
use Rattle.trace_log.specs.declared.fault.Fault.TheVariants.{BadLine, Oversize, LogLimit, OutputLimit, Read, Write, Memory}
use Rattle.trace_log.specs.Settings.{Settings}
use Rattle.trace_log.specs.Messages.{meaning_of_lines}
use Rattle.trace_log.specs.CanonicalLog.{canonical_log_of_lines, lines_within, fitting, early_text}
use Rattle.trace_log.specs.Answers.{WritesEarly, WritesFront}
use Rattle.trace_log.specs.Laws.{FittingIsLongest, FaultLeavesFront}
use Rattle.trace_log.proofs.Texts.{Begins, within_front, fitting_log_begins, early_text_stays}
use Rattle.trace_log.specs.Refusal.{announces_within}
use Rattle.trace_log.proofs.StoppedRuns.{writes_front_of_all}

-- ---- the longest front

room_left : (line : List ℕ) (later : List (List ℕ)) (room : ℕ) → length (ended_lines (line ∷ later)) ≤ room
    → (length line + 1 ≤ room) × (length (ended_lines later) ≤ room - (length line + 1))
room_left line later room few =
    let all = length-append (line ++ 10 ∷ []) (ended_lines later) in
    let feed = length-append line (10 ∷ []) in
    (omega arith, omega arith)

within_fits : (room : ℕ) (lines : List (List ℕ)) → length (ended_lines (lines_within room lines)) ≤ room
within_fits room [] = omega arith
within_fits room (line ∷ later) = go (nat_le (length line + 1) room) refl (within_fits (room - (length line + 1)) later)
  where
    go : (fits : Bool) → nat_le (length line + 1) room ≡ fits → length (ended_lines (lines_within (room - (length line + 1)) later)) ≤ room - (length line + 1)
        → length (ended_lines (cond fits (line ∷ lines_within (room - (length line + 1)) later) [])) ≤ room
    go true is rest =
        let few = leb-true (length line + 1) room is in
        let all = length-append (line ++ 10 ∷ []) (ended_lines (lines_within (room - (length line + 1)) later)) in
        let feed = length-append line (10 ∷ []) in
        omega arith
    go false is rest = omega arith

within_longest : (room : ℕ) (lines more others : List (List ℕ)) → lines ≡ more ++ others → length (ended_lines more) ≤ room
    → length more ≤ length (lines_within room lines)
within_longest room lines [] others parts few = omega arith
within_longest room [] (first ∷ more) others parts few = absurd (cc)
within_longest room (line ∷ later) (first ∷ more) others parts few =
    let same : first ≡ line = cc in
    let rest : later ≡ more ++ others = cc in
    let left = room_left line more room (subst (λ x. length (ended_lines (x ∷ more)) ≤ room) same few) in
    let again = within_longest (room - (length line + 1)) later more others rest left.1 in
    rw (le-leb (length line + 1) room left.0) (omega arith)

pub fitting_is_longest : FittingIsLongest
unfolding fitting
fitting_is_longest settings lines clean =
    let front = within_front settings.max_bytes lines in
    let cut : log_lines (ended_lines lines) ≡ lines =
    ap log_lines (sym (append-nil (ended_lines lines))) ∙ log_lines_of_parts lines [] clean tt ∙ append-nil lines in (
      lines_within settings.max_bytes lines,
      record {
        rest = front.0;
        parts = front.1;
        fits = within_fits settings.max_bytes lines;
        longest = within_longest settings.max_bytes lines;
      },
      ap (λ x. ended_lines (lines_within settings.max_bytes x)) cut,
    )

-- ---- fronts at a fault

early_is_front : (limit : ℕ) (settings : Settings) (log : List ℕ) (given : ℕ) (fault : Fault) (old new : List ℕ) → WritesEarly limit settings log given fault old new
    → WritesFront limit settings log given fault old new
early_is_front limit settings log given fault old new early =
    let stays = early_text_stays limit settings early.meanings [] in
    record {
      meanings = early.meanings;
      read = early.read;
      written = early_text limit settings early.meanings;
      missing = stays.0;
      wrote = early.wrote;
      front = ap (canonical_log_of_lines limit settings) (sym (append-nil early.meanings)) ∙ stays.1;
    }

pub fault_leaves_front : FaultLeavesFront
fault_leaves_front limit settings log given (BadLine line column) old new answers = early_is_front limit settings log given (BadLine line column) old new answers.1
fault_leaves_front limit settings log given (Oversize line announced) old new answers = early_is_front limit settings log given (Oversize line announced) old new answers.1
fault_leaves_front limit settings log given LogLimit old new answers = early_is_front limit settings log given LogLimit old new answers.1
fault_leaves_front limit settings log given OutputLimit old new answers =
    let meanings = answers.1.1 in
    let read = answers.1.2 in
    let begins : Begins (fitting settings (canonical_log_of_lines limit settings meanings)) (canonical_log_of_lines limit settings meanings) =
    fitting_log_begins limit settings (flattened (meaning_of_lines limit settings meanings)) in
    writes_front_of_all (announces_within limit settings) (canonical_log_of_lines limit settings) settings log given meanings old new OutputLimit
    (fitting settings (canonical_log_of_lines limit settings meanings)) read.means
    (le-min answers.1.0 read.short) refl read.within answers.1.3 begins
fault_leaves_front limit settings log given Read old new answers = early_is_front limit settings log given Read old new answers.1
fault_leaves_front limit settings log given Write old new answers = answers.1.0
fault_leaves_front limit settings log given Memory old new answers = answers.1.0
