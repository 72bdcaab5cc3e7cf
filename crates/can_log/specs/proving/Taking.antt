-- A device of proof: how a scanner takes a line of plain form.
use Rattle.std.specs.Prelude.{◌≡◌, ℕ, ◌+◌, List, Some}
use Rattle.can_log.specs.declared.plain.Fields.{Fields}
use Rattle.can_log.specs.declared.scanner.Scan.TheVariants as scan
use Rattle.can_log.specs.Line.{stamped_of, parts_in}
use Rattle.can_log.specs.Scanning.{Standing, Scans}
use Rattle.can_log.specs.proving.Plain.{ArePlainFields, spelling_of}

-- It takes the next line, which has these fields, and ends after `used` bytes of the piece.
pub record TakesPlain (old : Standing) (piece : List ℕ) (fields : Fields) (used : ℕ) (new : Standing) : Type 0 where
  pub legal : ArePlainFields fields
  pub counted : new.lines ≡ old.lines + 1
  pub scans : Scans old piece (scan.Line used (old.lines + 1) (Some (stamped_of (parts_in (spelling_of fields))))) new
