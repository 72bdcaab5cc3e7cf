-- The lines of a piece of a log, one after another.
use Rattle.std.proofs.Common.{◌≡◌, ℕ, ◌+◌, ◌≤◌, List, [], ◌∷◌, ◌++◌, length, take, drop, arith, refl, ap, sym, subst, ◌∙◌, ◌⊎◌, inl, inr, Option, Some, None, Err, append-nil, append_assoc, length-append}
use Rattle.std.specs.Prelude.{codes, IfSome, IsSomeAnd}
use Rattle.std.proofs.lemmas.List.{take-append-drop}
use Rattle.can_log.specs.Log.{LogMeans, ended_lines}
use Rattle.can_log.specs.Scanning.{Place, Standing, ScansFrom, Scans, Finishes}
use Rattle.can_log.specs.WholeLog.{StandsAfter, IsRefusedWithin}
use Rattle.can_log.specs.declared.frame.Stamped.{Stamped}
use Rattle.can_log.specs.declared.scanner.Scan.{Scan}
use Rattle.can_log.specs.declared.scanner.Scan.TheVariants as scan
use Rattle.can_log.proofs.Promises.{scan_reads_on, finish_reads_end, lines_mean_as_many}
use Rattle.trace_log.proofs.LogLines.{lines_are_few}
use Rattle.trace_log.specs.Feeding.{Took, Stopped, RefusesIn, StopsIn, StopsAtEnd, IsOfTaker}
use Rattle.trace_log.specs.proving.Reading.{StopsPiece, ReadsPiece, StopsEnd, ReadsEnd}
use Rattle.trace_log.specs.declared.fault.Fault.{Fault}
use Rattle.trace_log.specs.declared.fault.Fault.TheVariants as fault

-- ---- what an answer tells by itself

-- a line that ended
pub line_within : (old new : Standing) (piece : List ℕ) (used line : ℕ) (what : Option Stamped) → Scans old piece (scan.Line used line what) new
    → (1 ≤ used) × (used ≤ length piece) × (new.taken ≡ old.taken + used)
line_within old new piece used line what = by old.refused
  where
    by : (r : Option Place) → ScansFrom r old piece (scan.Line used line what) new → (1 ≤ used) × (used ≤ length piece) × (new.taken ≡ old.taken + used)
    by None (front, after, parts, clean, len, n_is, means, is) =
        let whole = ap length parts ∙ length-append front (codes "\n" ++ after) ∙ ap (λ n. length front + n) (length-append (codes "\n") after) in
        (omega arith, omega arith, ap (λ s. s.taken) is)
    by (Some place) (answer, is) = absurd (cc answer)

-- it is counted
pub line_counted : (old new : Standing) (piece : List ℕ) (used line : ℕ) (what : Option Stamped) → Scans old piece (scan.Line used line what) new → new.lines ≡ line
line_counted old new piece used line what = by old.refused
  where
    by : (r : Option Place) → ScansFrom r old piece (scan.Line used line what) new → new.lines ≡ line
    by None (front, after, parts, clean, len, n_is, means, is) = ap (λ s. s.lines) is
    by (Some place) (answer, is) = absurd (cc answer)

-- no line that ended
pub waits_within : (old new : Standing) (piece : List ℕ) (answer : Scan) → Scans old piece answer new → (answer ≡ scan.NeedMore) ⊎ (answer ≡ scan.End)
    → new.taken ≡ old.taken + length piece
waits_within old new piece answer scans (inl waits) = by old.refused (subst (λ a. Scans old piece a new) waits scans)
  where
    by : (r : Option Place) → ScansFrom r old piece scan.NeedMore new → new.taken ≡ old.taken + length piece
    by None (clean, legal, is) = ap (λ s. s.taken) is
    by (Some place) (answer, is) = absurd (cc answer)
waits_within old new piece answer scans (inr ends) = by old.refused (subst (λ a. Scans old piece a new) ends scans)
  where
    by : (r : Option Place) → ScansFrom r old piece scan.End new → new.taken ≡ old.taken + length piece
    by None s = absurd s
    by (Some place) (answer, is) = absurd (cc answer)

-- ---- a piece

-- Of these bytes, of which some were read before, all but this rest were read.
pub record HasRead {T : Type 0} (took : Took T) (start : T) (first : List (Option Stamped)) (bytes rest : List ℕ) (standing : Standing) (now : T) : Type 0 where
  pub front : List ℕ
  pub meanings : List (Option Stamped)
  pub parts : bytes ≡ front ++ rest
  pub stands : StandsAfter front meanings standing
  pub taken : took start meanings now
  pub more : List (Option Stamped)
  pub since : meanings ≡ first ++ more

pub few_lines : (bytes : List ℕ) (meanings : List (Option Stamped)) (standing : Standing) → StandsAfter bytes meanings standing → length meanings ≤ length bytes
few_lines bytes meanings standing stands =
    let few = lines_are_few stands.lines in
    let same = lines_mean_as_many stands.lines meanings stands.means in
    let parts = ap length stands.parts ∙ length-append (ended_lines stands.lines) standing.line in
    omega arith

module _ {T : Type 0} (took : Took T) (start : T) where
  -- nothing was read yet
  pub read_none : (bytes piece : List ℕ) (meanings : List (Option Stamped)) (standing : Standing) (now : T) → StandsAfter bytes meanings standing → took start meanings now
      → HasRead took start meanings (bytes ++ piece) piece standing now
  read_none bytes piece meanings standing now stands taken =
      record { front = bytes; meanings = meanings; parts = refl; stands = stands; taken = taken; more = []; since = sym (append-nil meanings) }

  -- the number of the line that is next
  pub line_number : (first : List (Option Stamped)) (bytes rest : List ℕ) (old new : Standing) (now : T) (used line : ℕ) (what : Option Stamped)
      → (read : HasRead took start first bytes rest old now) → Scans old rest (scan.Line used line what) new → line ≡ length read.meanings + 1
  line_number first bytes rest old new now used line what read scans =
      (scan_reads_on read.front read.meanings rest old new (scan.Line used line what) read.stands scans).1

  -- one line more was read
  pub read_line : (first : List (Option Stamped)) (bytes rest after : List ℕ) (old new : Standing) (now next : T) (used line : ℕ) (what : Option Stamped)
      → (read : HasRead took start first bytes rest old now) → Scans old rest (scan.Line used line what) new → after ≡ drop used rest
      → took start (read.meanings ++ what ∷ []) next → HasRead took start first bytes after new next
  read_line first bytes rest after old new now next used line what read scans left taken =
      let reads = scan_reads_on read.front read.meanings rest old new (scan.Line used line what) read.stands scans in
      let cut = take-append-drop used rest in
      record {
        front = read.front ++ take used rest;
        meanings = read.meanings ++ what ∷ [];
        parts = read.parts ∙ ap (λ x. read.front ++ x) (sym cut) ∙ sym (append_assoc read.front (take used rest) (drop used rest))
            ∙ ap (λ x. (read.front ++ take used rest) ++ x) (sym left);
        stands = reads.2;
        taken = taken;
        more = read.more ++ what ∷ [];
        since = ap (λ w. w ++ what ∷ []) read.since ∙ append_assoc first read.more (what ∷ []);
      }

  -- the line on which the taker stopped
  pub line_stops : (first : List (Option Stamped)) (bytes rest : List ℕ) (old new : Standing) (now : T) (used line : ℕ) (what : Option Stamped)
      → (read : HasRead took start first bytes rest old now) → Scans old rest (scan.Line used line what) new → StopsIn first bytes read.meanings what
  line_stops first bytes rest old new now used line what read scans =
      let reads = scan_reads_on read.front read.meanings rest old new (scan.Line used line what) read.stands scans in
      record {
        front = read.front ++ take used rest;
        rest = drop used rest;
        standing = new;
        more = read.more;
        parts = read.parts ∙ ap (λ x. read.front ++ x) (sym (take-append-drop used rest)) ∙ sym (append_assoc read.front (take used rest) (drop used rest));
        stands = reads.2;
        since = read.since;
      }

  -- a byte of what is left is refused
  pub piece_refused : (first : List (Option Stamped)) (bytes rest : List ℕ) (old new : Standing) (now : T) (line column : ℕ)
      → (read : HasRead took start first bytes rest old now) → Scans old rest (scan.Bad line column) new → RefusesIn bytes read.meanings line column
  piece_refused first bytes rest old new now line column read scans = subst (λ b. RefusesIn b read.meanings line column) (sym read.parts) (λ more.
      let refused = scan_reads_on read.front read.meanings rest old new (scan.Bad line column) read.stands scans more in
      subst (λ n. IsRefusedWithin n read.meanings ((read.front ++ rest) ++ more) line column) (sym (length-append read.front rest))
      (subst (λ log. IsRefusedWithin (length read.front + length rest) read.meanings log line column) (sym (append_assoc read.front rest more)) refused))

  -- all was read
  pub piece_read : (first : List (Option Stamped)) (bytes : List ℕ) (standing : Standing) (now : T) (read : HasRead took start first bytes [] standing now) → StandsAfter bytes read.meanings standing
  piece_read first bytes standing now read = subst (λ x. StandsAfter x read.meanings standing) (sym (read.parts ∙ append-nil read.front)) read.stands

  -- all that is left is in an unfinished line
  pub piece_waits : (first : List (Option Stamped)) (bytes rest : List ℕ) (old new : Standing) (answer : Scan) (now : T) (read : HasRead took start first bytes rest old now)
      → Scans old rest answer new → (answer ≡ scan.NeedMore) ⊎ (answer ≡ scan.End) → StandsAfter bytes read.meanings new
  piece_waits first bytes rest old new answer now read scans (inl waits) =
      subst (λ x. StandsAfter x read.meanings new) (sym read.parts)
      (scan_reads_on read.front read.meanings rest old new scan.NeedMore read.stands (subst (λ a. Scans old rest a new) waits scans))
  piece_waits first bytes rest old new answer now read scans (inr ends) =
      absurd (scan_reads_on read.front read.meanings rest old new scan.End read.stands (subst (λ a. Scans old rest a new) ends scans))

-- ---- the end

-- the last line, without a line feed
pub last_number : (log : List ℕ) (meanings : List (Option Stamped)) (old new : Standing) (used line : ℕ) (what : Option Stamped) → StandsAfter log meanings old
    → Finishes old (scan.Line used line what) new → line ≡ length meanings + 1
last_number log meanings old new used line what stands finishes = (finish_reads_end log meanings old new (scan.Line used line what) stands finishes).0

pub last_stops : (log : List ℕ) (meanings : List (Option Stamped)) (old new : Standing) (used line : ℕ) (what : Option Stamped) → StandsAfter log meanings old
    → Finishes old (scan.Line used line what) new → StopsAtEnd log meanings what
last_stops log meanings old new used line what stands finishes =
    record { standing = old; stands = stands; means = (finish_reads_end log meanings old new (scan.Line used line what) stands finishes).1 }

pub end_means : (log : List ℕ) (meanings : List (Option Stamped)) (old new : Standing) (answer : Scan) → StandsAfter log meanings old → Finishes old answer new
    → (answer ≡ scan.NeedMore) ⊎ (answer ≡ scan.End) → LogMeans log meanings
end_means log meanings old new answer stands finishes (inl waits) =
    absurd (finish_reads_end log meanings old new scan.NeedMore stands (subst (λ a. Finishes old a new) waits finishes))
end_means log meanings old new answer stands finishes (inr ends) =
    finish_reads_end log meanings old new scan.End stands (subst (λ a. Finishes old a new) ends finishes)

-- ---- the taker stopped on a line

module _ {T : Type 0} (took : Took T) (stopped : Stopped T) (start : T) where
  -- for a fault of its own, among the lines of a piece
  pub stops_piece : (A : Type 0) (why : Fault) (first : List (Option Stamped)) (bytes piece : List ℕ) (standing : Standing) (now : T) → IsOfTaker why
      → StopsPiece took stopped start first (bytes ++ piece) why now → ReadsPiece took stopped start {A = A} first bytes piece (Err why) standing now
  stops_piece A (fault.Oversize line announced) first bytes piece standing now own stops = stops
  stops_piece A fault.Memory first bytes piece standing now own stops = stops
  stops_piece A (fault.BadLine line column) first bytes piece standing now own stops = absurd own
  stops_piece A fault.LogLimit first bytes piece standing now own stops = absurd own
  stops_piece A fault.OutputLimit first bytes piece standing now own stops = absurd own
  stops_piece A fault.Read first bytes piece standing now own stops = absurd own
  stops_piece A fault.Write first bytes piece standing now own stops = absurd own

  -- and on the last line
  pub stops_end : (why : Fault) (log : List ℕ) (now : T) → IsOfTaker why → StopsEnd took stopped start log why now → ReadsEnd took stopped start log (Err why) now
  stops_end (fault.Oversize line announced) log now own stops = stops
  stops_end fault.Memory log now own stops = stops
  stops_end (fault.BadLine line column) log now own stops = absurd own
  stops_end fault.LogLimit log now own stops = absurd own
  stops_end fault.OutputLimit log now own stops = absurd own
  stops_end fault.Read log now own stops = absurd own
  stops_end fault.Write log now own stops = absurd own

-- ---- a line that is passed

-- what is known of the identifiers that are wanted, where some are
pub passed : {W : Type 0} {P Q : W → Type 0} (wanted : Option W) → IfSome wanted P → IsSomeAnd wanted Q → (w : W) × P w × Q w
passed None known is = absurd is
passed (Some w) known is = (w, known, is)
