-- The lines of columns, and which of them a reader is shown.
use Prim.Native.Nat.{zero, suc}
use Rattle.std.specs.Prelude.{ℕ, ◌+◌, ◌-◌, ◌*◌, ◌/◌, Bool, ◌&&◌, ◌||◌, List, [], ◌∷◌, ◌++◌, nat_eq, nat_le, nat_lt, length, take, drop, if◌then◌else◌}
use Rattle.byte_columns.specs.declared.column.Column.{Column}
use Rattle.byte_columns.specs.declared.stretches.Stretch.{Stretch}
use Rattle.byte_columns.specs.declared.stretches.Stretch.TheVariants.{Shown, Folded}
use Rattle.byte_columns.specs.Columns.{differing}

-- so many columns has a line, but the last one, which may have fewer
abbrev pub line_length : ℕ
line_length = 16

-- so many columns stand in lines at most
abbrev pub most_in_lines : ℕ
most_in_lines = 4095

-- up to so many columns each line is shown
abbrev pub all_shown : ℕ
all_shown = 64

-- of more, so many of the lines that differ are shown
abbrev pub lines_shown : ℕ
lines_shown = 8

-- the columns that lines have: the first `most_in_lines` of all
abbrev pub in_lines : List Column → List Column
in_lines columns = take most_in_lines columns

-- and those that are not shown
abbrev pub hidden : List Column → List Column
hidden columns = drop most_in_lines columns

-- how many lines there are
abbrev pub line_count : List Column → ℕ
line_count columns = (length (in_lines columns) + (line_length - 1)) / line_length

-- the line of a number, counted from 0
abbrev pub line : List Column → ℕ → List Column
line columns number = take line_length (drop (line_length * number) (in_lines columns))

-- whether some column of a line differs
abbrev pub line_differs : List Column → ℕ → Bool
line_differs columns number = nat_lt 0 (differing (line columns number))

-- how many lines before this one differ
abbrev pub differing_before : List Column → ℕ → ℕ
differing_before columns zero = 0
differing_before columns (suc number) = (if line_differs columns number then 1 else 0) + differing_before columns number

-- A line is shown where there are at most `all_shown` columns. Of more, the first line is shown, and the first `lines_shown`
-- that differ.
abbrev pub is_shown : List Column → ℕ → Bool
is_shown columns number =
    nat_le (length columns) all_shown || nat_eq number 0 || (line_differs columns number && nat_lt (differing_before columns number) lines_shown)

-- how many of so many lines, from this number on, are folded together: all up to the next one that is shown
abbrev pub folded_from : List Column → ℕ → ℕ → ℕ
folded_from columns number zero = 0
folded_from columns number (suc more) = if is_shown columns number then 0 else 1 + folded_from columns (number + 1) more

-- the columns of so many lines, from this number on
abbrev pub columns_from : List Column → ℕ → ℕ → List Column
columns_from columns number zero = []
columns_from columns number (suc more) = line columns number ++ columns_from columns (number + 1) more

-- one more line that is folded, in front of others
abbrev pub with_folded : ℕ → List Stretch → List Stretch
with_folded number (Folded first count ∷ later) = Folded number (suc count) ∷ later
with_folded number later = Folded number 1 ∷ later

-- The stretches of so many lines, from this number on: what a reader sees is a line, or so many from one number on, folded
-- together.
abbrev pub stretches_from : List Column → ℕ → ℕ → List Stretch
stretches_from columns number zero = []
stretches_from columns number (suc more) =
    if is_shown columns number then Shown number ∷ stretches_from columns (number + 1) more
    else with_folded number (stretches_from columns (number + 1) more)

-- the stretches of all lines
abbrev pub stretches : List Column → List Stretch
stretches columns = stretches_from columns 0 (line_count columns)
