-- Two messages byte under byte, as a page has them: lines of sixteen columns, in which each byte that differs has a
-- mark.
use Rattle.std.specs.Prelude.{ℕ, ◌+◌, ◌-◌, ◌*◌, ◌==◌, Bool, true, false, not, ◌&&◌, List, [], ◌∷◌, ◌++◌, codes}
use Rattle.std.specs.Prelude.{length, nat_le, take, Option, Some, None, option_to_list, if◌then◌else◌}
use Rattle.std.specs.Fmt.{decimal}
use Rattle.std.specs.List.{flat_map, range_with_len}
use Rattle.can_log.specs.Digits.{hexadecimal}
use Rattle.byte_columns.specs.declared.column.Column.{Column}
use Rattle.byte_columns.specs.declared.stretches.Stretch.{Stretch}
use Rattle.byte_columns.specs.declared.stretches.Stretch.TheVariants.{Shown, Folded}
use Rattle.byte_columns.specs.Columns.{differing, differs}
use Rattle.byte_columns.specs.Lines.{columns_from, hidden, line, line_count, line_differs, line_length, stretches}
use Rattle.shown_bytes.specs.Data.{more_words}
use Rattle.shown_bytes.specs.Letters.{letter_text}
use Rattle.pair_words.specs.declared.column_lines.ShownLogs.{ShownLogs}
use Rattle.pair_words.specs.declared.column_lines.ShownLogs.TheVariants.{Both, Only}
use Rattle.pair_words.specs.declared.column_words.LineOwner.{LineOwner}
use Rattle.pair_words.specs.declared.column_words.LineOwner.TheVariants.{Of, OfBoth, Untold}
use Rattle.pair_words.specs.declared.log.PairLog.{PairLog}
use Rattle.pair_words.specs.declared.log.PairLog.TheVariants.{A, B}
use Rattle.pair_words.specs.Logs.{byte_of, letter, letter_mark, other_log}

-- what a log has in a column: two digits, or a gap
abbrev pub byte_or_gap : Option ℕ → List ℕ
byte_or_gap None = codes "--"
byte_or_gap (Some byte) = hexadecimal 2 byte

-- a mark begins with a column that differs, where none is open
abbrev pub mark_start : Bool → Bool → List ℕ
mark_start marked differ = if differ && not marked then codes "<mark>" else []

-- a mark that is open ends before a column that doesn't differ
abbrev pub mark_end : Bool → Bool → List ℕ
mark_end marked differ = if marked && not differ then codes "</mark>" else []

-- the columns of a log behind another one, which is marked or not
abbrev pub cells_behind : PairLog → Bool → List Column → List ℕ
cells_behind log marked [] = mark_end marked false
cells_behind log marked (here ∷ later) =
    mark_end marked (differs here) ++ codes " " ++ mark_start marked (differs here) ++ byte_or_gap (byte_of log here)
    ++ cells_behind log (differs here) later

-- the columns of a log
abbrev pub cells : PairLog → List Column → List ℕ
cells log [] = []
cells log (here ∷ later) = mark_start false (differs here) ++ byte_or_gap (byte_of log here) ++ cells_behind log (differs here) later

-- the bytes that a log has in these columns
abbrev pub bytes_in : PairLog → List Column → List ℕ
bytes_in log columns = flat_map (λ (here : Column). option_to_list (byte_of log here)) columns

-- the letter for what a log has in a column: a blank in a gap
abbrev pub letter_or_gap : Option ℕ → List ℕ
letter_or_gap None = codes " "
letter_or_gap (Some byte) = letter_text byte

-- the letters for what a log has in these columns
abbrev pub column_letters : PairLog → List Column → List ℕ
column_letters log columns = flat_map (λ (here : Column). letter_or_gap (byte_of log here)) columns

-- the number of a line's first byte, by how many the log has before: where the line stands for both, that of the other
-- log behind it, if this is another one
abbrev pub first_number : LineOwner → ℕ → ℕ → List ℕ
first_number (Of log) before there = decimal (before + 1)
first_number OfBoth before there = decimal (before + 1) ++ (if before == there then [] else codes ", " ++ decimal (there + 1))
first_number Untold before there = decimal (before + 1)

-- the same, where there are several lines; a line alone has no number
abbrev pub number_text : ℕ → LineOwner → ℕ → ℕ → List ℕ
number_text lines whose before there = if nat_le lines 1 then [] else first_number whose before there

-- a number, where a log has these bytes in its line
abbrev pub number_if : List ℕ → List ℕ → List ℕ
number_if number [] = []
number_if number (byte ∷ bytes) = number

-- what a log has in a line
abbrev pub cells_text : List ℕ → PairLog → List Column → List ℕ
cells_text [] log columns = codes "<mark>no byte</mark>"
cells_text (byte ∷ bytes) log columns = cells log columns

-- the letters of columns in grey, where the messages may be text
abbrev pub grey_columns : Bool → PairLog → List Column → List ℕ
grey_columns lettered log columns = if lettered then codes " <samp>" ++ column_letters log columns ++ codes "</samp>" else []

-- the same, where a log has these bytes in a line
abbrev pub letters_if : Bool → List ℕ → PairLog → List Column → List ℕ
letters_if lettered [] log columns = []
letters_if lettered (byte ∷ bytes) log columns = grey_columns lettered log columns

-- whose line it is
abbrev pub whose_text : LineOwner → List ℕ
whose_text (Of log) = letter_mark log
whose_text OfBoth = codes "<span class=\"who eq\">=</span> "
whose_text Untold = []

-- a line of a log, with this number: whose it is, its bytes, and their letters
abbrev pub side_line : Bool → LineOwner → PairLog → List ℕ → List Column → List ℕ
side_line lettered whose log number columns =
    codes "<p><i>" ++ number_if number (bytes_in log columns) ++ codes "</i> " ++ whose_text whose ++ codes "<code>"
    ++ cells_text (bytes_in log columns) log columns ++ codes "</code>" ++ letters_if lettered (bytes_in log columns) log columns ++ codes "</p>"

-- how many bytes a log has before a line
abbrev pub bytes_before : PairLog → List Column → ℕ → ℕ
bytes_before log columns number = length (bytes_in log (take (line_length * number) columns))

-- the line of a number, as one log has it
abbrev pub line_of : Bool → LineOwner → PairLog → List Column → ℕ → List ℕ
line_of lettered whose log columns number =
    side_line lettered whose log (number_text (line_count columns) whose (bytes_before log columns number) (bytes_before (other_log log) columns number))
    (line columns number)

-- A line that differs is written as each log has it; any other one once. For one log alone nothing says whose it is.
abbrev pub line_text : ShownLogs → Bool → List Column → ℕ → List ℕ
line_text Both lettered columns number =
    if line_differs columns number
    then line_of lettered (Of A) A columns number ++ line_of lettered (Of B) B columns number
    else line_of lettered OfBoth A columns number
line_text (Only log) lettered columns number = line_of lettered Untold log columns number

-- a log has a byte in a column
abbrev pub has_byte : Option ℕ → Bool
has_byte None = false
has_byte (Some byte) = true

-- A column counts: for both logs each does, and for one log alone each in which that has a byte.
abbrev pub is_counted : ShownLogs → Column → Bool
is_counted Both here = true
is_counted (Only log) here = has_byte (byte_of log here)

-- the columns that count
abbrev pub counted : ShownLogs → List Column → List Column
counted shown [] = []
counted shown (here ∷ later) = if is_counted shown here then here ∷ counted shown later else counted shown later

-- how many columns don't count: there the other log alone has a byte
abbrev pub uncounted : ShownLogs → List Column → ℕ
uncounted shown columns = length columns - length (counted shown columns)

-- how many of some bytes differ
abbrev pub differ_words : ℕ → List ℕ
differ_words count = if count == 0 then codes "the same" else if count == 1 then codes "1 of them differs" else decimal count ++ codes " of them differ"

-- so many bytes more
abbrev pub bytes_more : ℕ → List ℕ
bytes_more count = decimal count ++ more_words count

-- so many bytes
abbrev pub bytes_word : ℕ → List ℕ
bytes_word count = if count == 1 then codes "1 byte" else decimal count ++ codes " bytes"

-- so many bytes that only this log has, if it has some
abbrev pub only_words : PairLog → ℕ → List ℕ
only_words log count = if count == 0 then [] else codes "; " ++ bytes_word count ++ codes " only in " ++ letter log

-- so many bytes that only the other log has, behind what is told of the one that is shown
abbrev pub other_words : ShownLogs → ℕ → List ℕ
other_words Both count = []
other_words (Only log) count = only_words (other_log log) count

-- so many bytes more, of which so many differ; and so many that only the other log has
abbrev pub fold_words : ShownLogs → ℕ → ℕ → ℕ → List ℕ
fold_words shown count differ others =
    (if count == 0 then codes "no byte more" else bytes_more count ++ codes ", " ++ differ_words differ) ++ other_words shown others

-- what is told of the columns of a fold: how many count, how many of these differ, and how many don't count
abbrev pub fold_text : ShownLogs → List Column → List ℕ
fold_text shown columns = fold_words shown (length (counted shown columns)) (differing (counted shown columns)) (uncounted shown columns)

-- a stretch of lines: one that is shown, or several that are folded, with what is told of their columns
abbrev pub stretch_text : ShownLogs → Bool → List Column → Stretch → List ℕ
stretch_text shown lettered columns (Shown number) = line_text shown lettered columns number
stretch_text shown lettered columns (Folded first count) =
    codes "<details><summary>" ++ fold_text shown (columns_from columns first count) ++ codes "</summary>" ++ flat_map (line_text shown lettered columns) (range_with_len first count) ++ codes "</details>"

-- so many bytes more that are not shown, of which so many differ; and so many that only the other log has
abbrev pub hidden_words : ShownLogs → ℕ → ℕ → ℕ → List ℕ
hidden_words shown count differ others =
    if count == 0 && others == 0 then []
    else codes "<p class=\"rest\"><i>" ++ (if count == 0 then codes "no byte more" else bytes_more count ++ codes ", not shown; " ++ differ_words differ)
    ++ other_words shown others ++ codes "</i></p>"

-- what is not shown: how many columns of it count, how many of these differ, and how many don't count
abbrev pub hidden_text : ShownLogs → List Column → List ℕ
hidden_text shown columns = hidden_words shown (length (counted shown columns)) (differing (counted shown columns)) (uncounted shown columns)

-- two messages byte under byte
abbrev pub lines_text : ShownLogs → Bool → List Column → List ℕ
lines_text shown lettered columns =
    codes "<div class=\"hx\">" ++ flat_map (stretch_text shown lettered columns) (stretches columns) ++ hidden_text shown (hidden columns) ++ codes "</div>"
