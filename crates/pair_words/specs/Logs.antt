-- The two logs of a page, by their letters.
use Rattle.std.specs.Prelude.{ℕ, Bool, true, false, List, ◌++◌, codes, Option, if◌then◌else◌}
use Rattle.byte_columns.specs.declared.column.Column.{Column}
use Rattle.uds_difference.specs.declared.row.Row.{Row}
use Rattle.uds_difference.specs.declared.row.Row.TheVariants.{Same, Changed, OnlyLeft, OnlyRight}
use Rattle.shown_rows.specs.declared.changes.Change.{Change}
use Rattle.shown_bytes.specs.LogNames.{name_text}
use Rattle.pair_words.specs.declared.log.PairLog.{PairLog}
use Rattle.pair_words.specs.declared.log.PairLog.TheVariants.{A, B}

-- the letter of a log
abbrev pub letter : PairLog → List ℕ
letter A = codes "A"
letter B = codes "B"

-- the other one of the two logs
abbrev pub other_log : PairLog → PairLog
other_log A = B
other_log B = A

-- the letter of a log, before words or its name
abbrev pub letter_mark : PairLog → List ℕ
letter_mark log = codes "<span class=\"who\">" ++ letter log ++ codes "</span> "

-- a log by its letter and its name
abbrev pub lettered_name : PairLog → List ℕ → List ℕ
lettered_name log name = letter_mark log ++ name_text name

-- what a log has in a column of two messages
abbrev pub byte_of : PairLog → Column → Option ℕ
byte_of A here = here.left
byte_of B here = here.right

-- a row of this kind has an item of the log
abbrev pub has_item : PairLog → Row → Bool
has_item log Same = true
has_item log Changed = true
has_item A OnlyLeft = true
has_item A OnlyRight = false
has_item B OnlyLeft = false
has_item B OnlyRight = true

-- how many items of a log stand before a change
abbrev pub items_before : PairLog → Change → ℕ
items_before A here = here.left
items_before B here = here.right

-- how many items of a log a change has
abbrev pub own_count : PairLog → Change → ℕ
own_count log here = if has_item log here.kind then here.count else 0
