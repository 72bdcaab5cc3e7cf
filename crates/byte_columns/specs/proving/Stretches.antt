-- Devices of proof: the stretches of lines, one after another.
use Rattle.std.specs.Prelude.{ℕ, ◌-◌, List}
use Rattle.byte_columns.specs.declared.column.Column.{Column}
use Rattle.byte_columns.specs.declared.stretches.Stretch.{Stretch}
use Rattle.byte_columns.specs.declared.stretches.Stretch.TheVariants.{Shown, Folded}
use Rattle.byte_columns.specs.Lines.{line_count, stretches_from}

-- how many lines a stretch has
abbrev pub lines_in : Stretch → ℕ
lines_in (Shown number) = 1
lines_in (Folded first count) = count

-- the stretches from the line of a number on
abbrev pub stretches_left : List Column → ℕ → List Stretch
stretches_left columns number = stretches_from columns number (line_count columns - number)
