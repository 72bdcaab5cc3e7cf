-- Where a run over a log stopped, which lines had come then, and what was written of those that were read.
use Rattle.std.proofs.Common.{◌≡◌, ℕ, ◌+◌, ◌<◌, ◌≤◌, Bool, true, false, List, [], ◌∷◌, ◌++◌, length, take, drop, arith, refl, ap, sym, subst, ◌∙◌, Option, Some, inl, inr}
use Rattle.std.proofs.Common.{append-nil, append_assoc, length-append, length-take}
use Rattle.std.specs.Prelude.{min}
use Rattle.std.proofs.Math.Nat.{le-min, min-le_right}
use Rattle.std.proofs.lemmas.List.{take-append-drop}
use Rattle.can_log.specs.Log.{log_lines, LinesMean, LogMeans, ended_lines}
use Rattle.can_log.specs.Scanning.{Standing}
use Rattle.can_log.specs.WholeLog.{StandsAfter, IsRefusedBehind, IsRefusedWithin}
use Rattle.can_log.specs.declared.frame.Stamped.{Stamped}
use Rattle.trace_log.specs.declared.fault.Fault.{Fault}
use Rattle.trace_log.specs.declared.fault.Fault.TheVariants as fault
use Rattle.trace_log.specs.Settings.{Settings}
use Rattle.trace_log.specs.Refusal.{oversize, EachPasses, EachWithin}
use Rattle.trace_log.specs.LinesRead.{counts_last, AreGiven, AreReadBefore, WritesTextOfRead, WritesFrontOfRead}
use Rattle.trace_log.specs.Feeding.{RefusesIn, StopsIn, StopsWithin}
use Rattle.trace_log.proofs.ReadLines.{stands_lines, stands_read, read_begins, lines_read_are_there, all_lines_read}
use Rattle.trace_log.proofs.ScannedLogs.{IsBadBehind, IsOversizeBehind, oversize_taken, oversize_last, read_before_place}
use Rattle.trace_log.proofs.Texts.{Begins}

-- ---- a refused place

pub bad_in_front : (log : List ℕ) (given line column : ℕ) (meanings : List (Option Stamped)) → RefusesIn (take given log) meanings line column
    → IsBadBehind log line column meanings given
bad_in_front log given line column meanings refuses =
    let size = length-take given log in
    let refused = subst (λ x. IsRefusedWithin (length (take given log)) meanings x line column) (take-append-drop given log) (refuses (drop given log)) in
    let inside = refused.2 in
    record { place = refused.0; behind = refused.1; before = omega arith; within = inl (omega arith) }

pub bad_at_end : (log : List ℕ) (line column : ℕ) (meanings : List (Option Stamped)) → IsRefusedBehind meanings log line column → IsBadBehind log line column meanings (length log)
bad_at_end log line column meanings (place, behind) =
    let all = ap length place.parts ∙ length-append (ended_lines place.lines) place.rest in
    record { place = place; behind = behind; before = omega arith; within = inr (omega arith) }

-- ---- a line on which the run stopped

-- the log goes on after the bytes that a scanner has taken with that line
goes_on : (log : List ℕ) (given : ℕ) (firsts meanings : List (Option Stamped)) (what : Option Stamped) (stops : StopsIn firsts (take given log) meanings what)
    → log ≡ stops.front ++ (stops.rest ++ drop given log)
goes_on log given firsts meanings what stops =
    sym (take-append-drop given log) ∙ ap (λ x. x ++ drop given log) stops.parts ∙ append_assoc stops.front stops.rest (drop given log)

few_taken : (log : List ℕ) (given : ℕ) (firsts meanings : List (Option Stamped)) (what : Option Stamped) (stops : StopsIn firsts (take given log) meanings what)
    → length stops.front ≤ given
few_taken log given firsts meanings what stops =
    let size = length-take given log in
    let all = ap length stops.parts ∙ length-append stops.front stops.rest in
    omega arith

-- it announces too much
pub oversize_stops : (limit : ℕ) (settings : Settings) (log : List ℕ) (given line announced : ℕ) (meanings : List (Option Stamped)) (what : Option Stamped)
    → StopsWithin settings.max_bytes log given meanings what → line ≡ length meanings + 1 → EachWithin limit settings meanings → oversize limit settings what ≡ Some announced
    → (bytes : ℕ) × (bytes ≤ min given settings.max_bytes) × IsOversizeBehind limit settings log line announced meanings bytes
oversize_stops limit settings log given line announced meanings what (inl (few, place)) at each announces =
    let stops = place.stops in
    let taken = few_taken log given place.first meanings what stops in (
      length stops.front,
      le-min taken (omega arith),
      oversize_taken limit settings log stops.front (stops.rest ++ drop given log) meanings what stops.standing line announced stops.stands
          (goes_on log given place.first meanings what stops) (omega arith) at each announces,
    )
oversize_stops limit settings log given line announced meanings what (inr (short, all, stops)) at each announces =
    (length log, le-min (omega arith) short, oversize_last limit settings log meanings what line announced stops.means short at each announces)

-- ---- lines that had come

-- These lines of a log mean this, pass, and were given.
pub record HaveCome (passes : Option Stamped → Bool) (with_last : Bool) (count : ℕ) (log : List ℕ) (meanings : List (Option Stamped)) : Type 0 where
  pub lines : List (List ℕ)
  pub later : List (List ℕ)
  pub parts : log_lines log ≡ lines ++ later
  pub means : LinesMean lines meanings
  pub each : EachPasses passes meanings
  pub given : AreGiven with_last count log lines

-- a scanner has taken them
taken_have_come : (passes : Option Stamped → Bool) (with_last : Bool) (count : ℕ) (log front rest : List ℕ) (meanings : List (Option Stamped)) (standing : Standing)
    → StandsAfter front meanings standing → log ≡ front ++ rest → length front ≤ count → EachPasses passes meanings → HaveCome passes with_last count log meanings
taken_have_come passes with_last count log front rest meanings standing stands parts few each =
    let long = ap length stands.parts ∙ length-append (ended_lines stands.lines) standing.line in
    record {
      lines = stands.lines;
      later = log_lines (standing.line ++ rest);
      parts = stands_lines log front rest meanings standing stands parts;
      means = stands.means;
      each = each;
      given = inl (omega arith);
    }

-- the whole log has come
all_have_come : (passes : Option Stamped → Bool) (count : ℕ) (log : List ℕ) (meanings : List (Option Stamped)) → LogMeans log meanings → length log ≤ count
    → EachPasses passes meanings → HaveCome passes true count log meanings
all_have_come passes count log meanings means few each =
    record { lines = log_lines log; later = []; parts = sym (append-nil (log_lines log)); means = means; each = each; given = inr (refl, few) }

-- those up to the one on which the run stopped
pub have_come : (passes : Option Stamped → Bool) (settings : Settings) (log : List ℕ) (given : ℕ) (meanings : List (Option Stamped)) (what : Option Stamped)
    → StopsWithin settings.max_bytes log given meanings what → EachPasses passes (meanings ++ what ∷ [])
    → HaveCome passes true (min given settings.max_bytes) log (meanings ++ what ∷ [])
have_come passes settings log given meanings what (inl (few, place)) each =
    let stops = place.stops in
    let taken = few_taken log given place.first meanings what stops in
    taken_have_come passes true (min given settings.max_bytes) log stops.front (stops.rest ++ drop given log) (meanings ++ what ∷ []) stops.standing stops.stands
    (goes_on log given place.first meanings what stops) (le-min taken (omega arith)) each
have_come passes settings log given meanings what (inr (short, all, stops)) each =
    all_have_come passes (min given settings.max_bytes) log (meanings ++ what ∷ []) stops.means (le-min (omega arith) short) each

-- ---- which lines were read

module _ (passes : Option Stamped → Bool) (settings : Settings) (log : List ℕ) (given : ℕ) (meanings : List (Option Stamped)) (each : EachPasses passes meanings) where
  -- up to a refused place
  pub read_to_bad : (line column bytes : ℕ) → IsBadBehind log line column meanings bytes → bytes ≤ settings.max_bytes → bytes ≤ given
      → AreReadBefore passes settings log given (fault.BadLine line column) meanings
  read_to_bad line column bytes bad few come =
      read_before_place passes true (min given settings.max_bytes) log line column meanings bytes bad (le-min come few) each

  -- up to the limit, of a log that is longer
  pub read_to_limit : (front rest : List ℕ) (standing : Standing) → StandsAfter front meanings standing → log ≡ front ++ rest → length front ≡ settings.max_bytes
      → settings.max_bytes < length log → settings.max_bytes ≤ given → AreReadBefore passes settings log given fault.LogLimit meanings
  read_to_limit front rest standing stands parts full long come =
      let count : length front ≡ min given settings.max_bytes = omega arith in
      stands_read passes true (min given settings.max_bytes) log front rest meanings standing stands parts count each
      (λ yes short. (let few = min-le_right given settings.max_bytes in omega arith))

-- ---- what was written of the lines read

module _ (passes : Option Stamped → Bool) (text : List (Option Stamped) → List ℕ) (settings : Settings) (log : List ℕ) (given : ℕ) (meanings : List (Option Stamped))
    (old new : List ℕ) where
  module _ (front rest : List ℕ) (standing : Standing) (stands : StandsAfter front meanings standing) (parts : log ≡ front ++ rest) (each : EachPasses passes meanings)
      (wrote : new ≡ old ++ text meanings) where
    -- up to a failed read, of all bytes that were given
    pub writes_to_failed_read : length front ≡ given → given ≤ settings.max_bytes → WritesTextOfRead passes text settings log given fault.Read old new
    writes_to_failed_read full few =
        let count : length front ≡ min given settings.max_bytes = omega arith in
        record {
          meanings = meanings;
          read = stands_read passes false (min given settings.max_bytes) log front rest meanings standing stands parts count each (λ yes short. absurd (cc));
          wrote = wrote;
        }

  -- what was written begins the text of each longer list of lines than those that had come
  pub writes_front : (fault : Fault) (written : List ℕ) → HaveCome passes (counts_last fault) (min given settings.max_bytes) log meanings → new ≡ old ++ written
      → ((more : List (Option Stamped)) → Begins written (text (meanings ++ more))) → WritesFrontOfRead passes text settings log given fault old new
  writes_front fault written come wrote begins =
      let count = min given settings.max_bytes in
      let read = lines_read_are_there passes (counts_last fault) count log in
      let longer = read_begins passes (counts_last fault) count log read.0 meanings come.lines come.later read.1 come.parts come.means come.each come.given in
      let front = begins longer.0 in
      record { meanings = read.0; read = read.1; written = written; missing = front.0; wrote = wrote; front = ap text longer.1 ∙ front.1 }

  -- it begins the text of all lines of the log
  pub writes_front_of_all : (fault : Fault) (written : List ℕ) → LogMeans log meanings → length log ≤ min given settings.max_bytes → counts_last fault ≡ true
      → EachPasses passes meanings → new ≡ old ++ written → Begins written (text meanings) → WritesFrontOfRead passes text settings log given fault old new
  writes_front_of_all fault written means few last each wrote begins = record {
    meanings = meanings;
    read = all_lines_read passes (counts_last fault) (min given settings.max_bytes) log meanings means each last few;
    written = written;
    missing = begins.0;
    wrote = wrote;
    front = begins.1;
  }
