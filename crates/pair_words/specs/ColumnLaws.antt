-- What holds of two messages byte under byte on a page, whatever they are: what a line has of each, which of its bytes
-- have marks, and what is told of lines that are folded or not shown.
use Prim.Native.Char.{code}
use Rattle.std.specs.Prelude.{◌≡◌, ◌==◌, ℕ, Bool, true, false, not, List, [], ◌∷◌, ◌++◌, codes, length, option_to_list, ◌&&◌, map, if◌then◌else◌}
use Rattle.std.specs.List.{filter, flat_map}
use Rattle.byte_columns.specs.declared.column.Column.{Column}
use Rattle.byte_columns.specs.declared.stretches.Stretch.TheVariants.{Folded}
use Rattle.byte_columns.specs.Columns.{differing, differs as column_differs}
use Rattle.byte_columns.specs.Lines.{columns_from, line, line_differs}
use Rattle.pair_words.specs.declared.log.PairLog.{PairLog}
use Rattle.pair_words.specs.declared.log.PairLog.TheVariants.{A, B}
use Rattle.pair_words.specs.declared.column_lines.ShownLogs.{ShownLogs}
use Rattle.pair_words.specs.declared.column_lines.ShownLogs.TheVariants.{Both, Only}
use Rattle.pair_words.specs.declared.column_words.LineOwner.{LineOwner}
use Rattle.pair_words.specs.declared.column_words.LineOwner.TheVariants.{Of, OfBoth, Untold}
use Rattle.pair_words.specs.ColumnLines.{bytes_in, cells, counted, fold_words, hidden_text, hidden_words, line_text, stretch_text, whose_text, byte_or_gap}
use Rattle.pair_words.specs.Logs.{byte_of, letter}

-- the log has a byte in a column
abbrev pub has_byte_of : PairLog → Column → Bool
has_byte_of log here = length (option_to_list (byte_of log here)) == 1

-- the columns that count in a fold, and in what is not shown: of both logs each, of one alone each in which it has a
-- byte
abbrev pub own_columns : ShownLogs → List Column → List Column
own_columns Both columns = columns
own_columns (Only log) columns = filter (has_byte_of log) columns

-- the log has no byte in a column
abbrev pub lacks_byte_of : PairLog → Column → Bool
lacks_byte_of log here = not (has_byte_of log here)

-- the columns that don't count: of both logs none, of one alone each in which it has no byte
abbrev pub other_columns : ShownLogs → List Column → List Column
other_columns Both columns = []
other_columns (Only log) columns = filter (lacks_byte_of log) columns

-- how many columns of a fold count, how many of these differ, and how many don't count, in words
abbrev pub fold_told : ShownLogs → List Column → List ℕ
fold_told shown columns = fold_words shown (length (own_columns shown columns)) (differing (own_columns shown columns)) (length (other_columns shown columns))

-- the same of columns that are not shown
abbrev pub hidden_told : ShownLogs → List Column → List ℕ
hidden_told shown columns = hidden_words shown (length (own_columns shown columns)) (differing (own_columns shown columns)) (length (other_columns shown columns))

-- Of lines that are folded, and of what is not shown, each column counts where they are of both logs; where they are of
-- one alone, as many as it has bytes there. How many these are, how many of them differ, and how many are bytes of the
-- other log alone, is told: a fold begins with it.
abbrev pub EachByteIsCounted : Type 0
EachByteIsCounted = (columns : List Column)
    → ((shown : ShownLogs) → counted shown columns ≡ own_columns shown columns)
    × ((log : PairLog) → length (own_columns (Only log) columns) ≡ length (bytes_in log columns))
    × ((shown : ShownLogs) (lettered : Bool) (first count : ℕ) → (behind : List ℕ) × (stretch_text shown lettered columns (Folded first count)
    ≡ (codes "<details><summary>" ++ fold_told shown (columns_from columns first count) ++ codes "</summary>") ++ behind))
    × ((shown : ShownLogs) → hidden_text shown columns ≡ hidden_told shown columns)

-- what is to be seen of a log in a line, where it has these bytes there: its columns, or that it has none
abbrev pub own_cells : List ℕ → PairLog → List Column → List ℕ
own_cells [] log here = codes "<mark>no byte</mark>"
own_cells (byte ∷ bytes) log here = cells log here

-- this, behind whose line it is
abbrev pub own_line : LineOwner → PairLog → List Column → List ℕ
own_line whose log here = whose_text whose ++ codes "<code>" ++ own_cells (bytes_in log here) log here ++ codes "</code>"

-- something stands in a text
abbrev pub StandsIn : List ℕ → List ℕ → Type 0
StandsIn text part = (front : List ℕ) × (behind : List ℕ) × (text ≡ front ++ (part ++ behind))

-- A line in which no column differs stands once, behind =, and both logs have the bytes that stand there. Any other one
-- stands as A has it, and behind that as B has it. A line of one log alone stands as that has it.
abbrev pub EachLogHasItsLine : Type 0
EachLogHasItsLine = (lettered : Bool) (columns : List Column) (number : ℕ)
    → (line_differs columns number ≡ false → (bytes_in A (line columns number) ≡ bytes_in B (line columns number))
    × StandsIn (line_text Both lettered columns number) (own_line OfBoth A (line columns number)))
    × (line_differs columns number ≡ true → (between : List ℕ)
    × StandsIn (line_text Both lettered columns number) (own_line (Of A) A (line columns number) ++ (between ++ own_line (Of B) B (line columns number))))
    × ((log : PairLog) → StandsIn (line_text (Only log) lettered columns number) (own_line Untold log (line columns number)))

-- The marks of two messages byte under byte.

-- a letter as a reader sees it, with a mark or without
pub record SeenLetter : Type 0 where
  pub letter : ℕ
  pub is_marked : Bool

abbrev pub seen_letter : Bool → ℕ → SeenLetter
seen_letter marked byte = record { letter = byte; is_marked = marked }

-- What a reader sees of a text, where a mark is open or none is, and outside of a tag or within one: a tag opens a
-- mark, or with a stroke closes it. Blanks only stand between.
abbrev pub seen_from : Bool → Bool → List ℕ → List SeenLetter
seen_from marked within [] = []
seen_from marked true (b ∷ rest) = seen_from (marked && not (b == code "/")) (not (b == code ">")) rest
seen_from marked false (b ∷ rest) =
    if b == code "<" then seen_from true true rest
    else if b == code " " then seen_from marked false rest
    else seen_letter marked b ∷ seen_from marked false rest

-- what is seen of a text
abbrev pub seen_in : List ℕ → List SeenLetter
seen_in text = seen_from false false text

-- what is to be seen of a column: the digits of the byte that the log has there, or a gap, with a mark where it differs
abbrev pub seen_of : PairLog → Column → List SeenLetter
seen_of log here = map (seen_letter (column_differs here)) (byte_or_gap (byte_of log here))

-- each column of a line that differs has a mark, and no other has; without the marks what stands there is what the log
-- has
abbrev pub MarksAreOfColumnsThatDiffer : Type 0
MarksAreOfColumnsThatDiffer = (log : PairLog) (columns : List Column) → seen_in (cells log columns) ≡ flat_map (seen_of log) columns
