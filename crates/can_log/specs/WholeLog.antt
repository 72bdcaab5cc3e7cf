-- A scanner over a whole log: how it is asked, piece by piece, and what its answers tell of the log, however it was cut.
use Rattle.std.specs.Prelude.{◌≡◌, ℕ, ◌+◌, ◌≤◌, ◌⊎◌, List, [], ◌∷◌, ◌++◌, length, take, drop, Option, None}
use Rattle.can_log.specs.declared.frame.Stamped.{Stamped}
use Rattle.can_log.specs.declared.scanner.Scan.{Scan}
use Rattle.can_log.specs.declared.scanner.Scan.TheVariants as scan
use Rattle.can_log.specs.Refused.{HasCompletion}
use Rattle.can_log.specs.Log.{LinesMean, LogMeans, ended_lines, IsRefusedIn}
use Rattle.can_log.specs.Scanning.{Standing, Scans}

-- how a scanner stands at the start of a log
abbrev pub at_start : Standing
at_start = record { lines = 0; line = []; taken = 0; refused = None }

-- A scanner stands after these bytes of a log, the lines of which mean this: what is left after them is the unfinished line.
pub record StandsAfter (bytes : List ℕ) (meanings : List (Option Stamped)) (standing : Standing) : Type 0 where
  pub lines : List (List ℕ)
  pub parts : bytes ≡ ended_lines lines ++ standing.line
  pub means : LinesMean lines meanings
  pub legal : HasCompletion standing.line
  pub counted : standing.lines ≡ length meanings
  pub taken : standing.taken ≡ length bytes
  pub sound : standing.refused ≡ None

-- a refused place, after lines that mean this
abbrev pub IsRefusedBehind : List (Option Stamped) → List ℕ → ℕ → ℕ → Type 0
IsRefusedBehind meanings log line column = (place : IsRefusedIn log line column) × (place.meanings ≡ meanings)

-- and among the first `count` bytes of the log
abbrev pub IsRefusedWithin : ℕ → List (Option Stamped) → List ℕ → ℕ → ℕ → Type 0
IsRefusedWithin count meanings log line column =
    (place : IsRefusedIn log line column) × (place.meanings ≡ meanings) × (length (ended_lines place.lines) + column ≤ count)

-- what an answer on a piece tells, after these bytes of a log
abbrev pub ReadsOn : List ℕ → List (Option Stamped) → List ℕ → Scan → Standing → Type 0
ReadsOn bytes meanings piece scan.NeedMore new = StandsAfter (bytes ++ piece) meanings new
ReadsOn bytes meanings piece (scan.Line used line what) new =
    (used ≤ length piece) × (line ≡ length meanings + 1) × StandsAfter (bytes ++ take used piece) (meanings ++ what ∷ []) new
ReadsOn bytes meanings piece (scan.Bad line column) new =
    (more : List ℕ) → IsRefusedWithin (length bytes + length piece) meanings (bytes ++ (piece ++ more)) line column
ReadsOn bytes meanings piece scan.End new = ⊥

-- what the answer at the end of a log tells
abbrev pub ReadsEnd : List ℕ → List (Option Stamped) → Scan → Type 0
ReadsEnd log meanings scan.NeedMore = ⊥
ReadsEnd log meanings (scan.Line used line what) = (line ≡ length meanings + 1) × LogMeans log (meanings ++ what ∷ [])
ReadsEnd log meanings (scan.Bad line column) = IsRefusedBehind meanings log line column
ReadsEnd log meanings scan.End = LogMeans log meanings

-- what is handed in next: after a line the rest of the same piece, else the next one
abbrev pub pieces_left : Scan → List ℕ → List (List ℕ) → List (List ℕ)
pieces_left scan.NeedMore piece pieces = pieces
pieces_left (scan.Line used line what) piece pieces = drop used piece ∷ pieces
pieces_left (scan.Bad line column) piece pieces = pieces
pieces_left scan.End piece pieces = pieces

-- the answers of `scan` over these pieces, and how the scanner stands then
abbrev pub ScansAll : Standing → List (List ℕ) → List Scan → Standing → Type 0
ScansAll old [] [] new = new ≡ old
ScansAll old [] (answer ∷ answers) new = ⊥
ScansAll old (piece ∷ pieces) [] new = ⊥
ScansAll old (piece ∷ pieces) (answer ∷ answers) new =
    (next : Standing) × Scans old piece answer next × ScansAll next (pieces_left answer piece pieces) answers new

-- What an answer tells of a log: a line with its number and what it means, or the refused place.
pub data Told : Type 0 where
  line : ℕ → Option Stamped → Told
  refused : ℕ → ℕ → Told

-- what the answers tell, up to the first refusal, which is answered again and again
abbrev pub report_of : List Scan → List Told
report_of [] = []
report_of (scan.NeedMore ∷ answers) = report_of answers
report_of (scan.Line used number what ∷ answers) = line number what ∷ report_of answers
report_of (scan.Bad number column ∷ answers) = refused number column ∷ []
report_of (scan.End ∷ answers) = report_of answers

-- lines that mean this, with their numbers
abbrev pub lines_from : ℕ → List (Option Stamped) → List Told
lines_from number [] = []
lines_from number (what ∷ meanings) = line number what ∷ lines_from (number + 1) meanings

-- What there is to tell of a log: its lines, numbered from 1; or those before its refused place, and the place.
abbrev pub TellsLog : List ℕ → List Told → Type 0
TellsLog log report =
    ((meanings : List (Option Stamped)) × LogMeans log meanings × (report ≡ lines_from 1 meanings))
    ⊎ ((number : ℕ) × (column : ℕ) × (place : IsRefusedIn log number column) × (report ≡ lines_from 1 place.meanings ++ refused number column ∷ []))
