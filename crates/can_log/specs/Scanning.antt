-- How a scanner stands between two pieces of a log, and what it answers on the next piece.
use Rattle.std.specs.Prelude.{◌≡◌, ℕ, ◌+◌, ◌<◌, List, [], ◌++◌, length, codes, Option, Some, None}
use Rattle.can_log.specs.declared.frame.Stamped.{Stamped}
use Rattle.can_log.specs.declared.scanner.Scan.{Scan}
use Rattle.can_log.specs.declared.scanner.Scan.TheVariants as scan
use Rattle.can_log.specs.Wanted.{WantedValue, IsForeign}
use Rattle.can_log.specs.Line.{LineMeans}
use Rattle.can_log.specs.Refused.{NoLineFeed, HasCompletion, IsRefusedPlace, IsUnfinishedAt}

-- a line and a column of a log, both counted from 1
pub record Place : Type 0 where
  pub line : ℕ
  pub column : ℕ

-- A scanner stands after `lines` whole lines and these bytes of the next one, `taken` bytes in all; or at a refused place.
pub record Standing : Type 0 where
  pub lines : ℕ
  pub line : List ℕ
  pub taken : ℕ
  pub refused : Option Place

-- what it answers on a piece, and how it stands then, where it refused nothing so far
abbrev pub ScansOn : Standing → List ℕ → Scan → Standing → Type 0
ScansOn old piece scan.NeedMore new =
    NoLineFeed piece × HasCompletion (old.line ++ piece)
    × (new ≡ record old { line = old.line ++ piece; taken = old.taken + length piece })
ScansOn old piece (scan.Line used line what) new =
    (front : List ℕ) × (after : List ℕ) × (piece ≡ front ++ (codes "\n" ++ after)) × NoLineFeed front × (used ≡ length front + 1)
    × (line ≡ old.lines + 1) × LineMeans (old.line ++ front) what
    × (new ≡ record old { lines = line; line = []; taken = old.taken + used })
ScansOn old piece (scan.Bad line column) new =
    (line ≡ old.lines + 1) × IsRefusedPlace (old.line ++ piece) column
    × (new ≡ record old { refused = Some (record { line = line; column = column }) })
ScansOn old piece scan.End new = ⊥

-- A refused place is answered again and again.
abbrev pub ScansFrom : Option Place → Standing → List ℕ → Scan → Standing → Type 0
ScansFrom None old piece answer new = ScansOn old piece answer new
ScansFrom (Some place) old piece answer new = (answer ≡ scan.Bad place.line place.column) × (new ≡ old)

-- what a scanner answers on a piece, and how it stands then
abbrev pub Scans : Standing → List ℕ → Scan → Standing → Type 0
Scans old piece answer new = ScansFrom old.refused old piece answer new

-- It takes the next line, which ends after `used` bytes of the piece and records a frame that has none of the identifiers.
pub record ScansForeign (wanted : WantedValue) (old : Standing) (piece : List ℕ) (used : ℕ) (new : Standing) : Type 0 where
  pub stamped : Stamped
  pub foreign : IsForeign wanted stamped.frame.id
  pub scans : Scans old piece (scan.Line used (old.lines + 1) (Some stamped)) new

-- what it answers at the end of the log, where it refused nothing so far
abbrev pub FinishesOn : Standing → Scan → Standing → Type 0
FinishesOn old scan.NeedMore new = ⊥
FinishesOn old (scan.Line used line what) new =
    (0 < length old.line) × (used ≡ 0) × (line ≡ old.lines + 1) × LineMeans old.line what
    × (new ≡ record old { lines = line; line = [] })
FinishesOn old (scan.Bad line column) new =
    (0 < length old.line) × (line ≡ old.lines + 1) × IsUnfinishedAt old.line column
    × (new ≡ record old { refused = Some (record { line = line; column = column }) })
FinishesOn old scan.End new = (old.line ≡ []) × (new ≡ old)

-- A refused place is answered at the end, too.
abbrev pub FinishesFrom : Option Place → Standing → Scan → Standing → Type 0
FinishesFrom None old answer new = FinishesOn old answer new
FinishesFrom (Some place) old answer new = (answer ≡ scan.Bad place.line place.column) × (new ≡ old)

-- what a scanner answers at the end of the log, and how it stands then
abbrev pub Finishes : Standing → Scan → Standing → Type 0
Finishes old answer new = FinishesFrom old.refused old answer new
