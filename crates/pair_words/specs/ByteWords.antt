-- How two messages differ, in words.
use Rattle.std.specs.Prelude.{ℕ, ◌+◌, ◌-◌, ◌==◌, ◌&&◌, Bool, List, [], ◌++◌, codes, length, min, nat_le, nat_lt, Option, Some, None, slice_get, if◌then◌else◌}
use Rattle.std.specs.Fmt.{decimal}
use Rattle.std.specs.List.{position_or_len}
use Rattle.byte_columns.specs.declared.column.Column.{Column}
use Rattle.byte_columns.specs.Columns.{beside, differing, differs}
use Rattle.trace_text.specs.RuledText.{place_text}
use Rattle.shown_bytes.specs.Data.{cut_behind, known_length, mark_at, piece_text}
use Rattle.uds_rules.specs.Rule.{RuleValue}
use Rattle.pair_words.specs.declared.byte_words.ByteMarks.{ByteMarks}
use Rattle.pair_words.specs.declared.log.PairLog.{PairLog}
use Rattle.pair_words.specs.declared.log.PairLog.TheVariants.{A, B}
use Rattle.pair_words.specs.Logs.{letter}

-- what rules made of a message at a place: whether the byte there is masked, and whether the message is cut off behind
-- it
abbrev pub marks_at : List RuleValue → List ℕ → ℕ → ByteMarks
marks_at rules bytes place = record { is_masked = mark_at rules bytes place; is_cut_behind = cut_behind rules bytes place }

-- the byte that a log has in a column, of which rules made this
abbrev pub byte_name : ByteMarks → Option ℕ → List ℕ
byte_name marks None = codes "no byte"
byte_name marks (Some byte) =
    codes "<b>" ++ place_text marks.is_masked byte ++ (if marks.is_cut_behind then codes " *" else []) ++ codes "</b>"

-- the first column that differs, by its number, where rules made this of the bytes of both logs
abbrev pub first_words_by : ByteMarks → ByteMarks → ℕ → Option Column → List ℕ
first_words_by left_marks right_marks place None = []
first_words_by left_marks right_marks place (Some here) =
    codes " byte " ++ decimal (place + 1) ++ codes ": " ++ byte_name left_marks here.left ++ codes " in A, "
    ++ byte_name right_marks here.right ++ codes " in B"

-- the first column of two messages that differs: up to there both have the same bytes, so the bytes that they have
-- there stand at that place of each
abbrev pub first_words : List RuleValue → List ℕ → List ℕ → ℕ → Option Column → List ℕ
first_words rules xs ys place here = first_words_by (marks_at rules xs place) (marks_at rules ys place) place here

-- how many more columns differ, where so many do
abbrev pub others_words : ℕ → List ℕ
others_words count =
    if nat_le count 1 then [] else if count == 2 then codes "; and 1 more byte" else codes "; and " ++ decimal (count - 1) ++ codes " more bytes"

-- how long a message was, of which so many bytes are left: at least so long, where its length is not known
abbrev pub length_words : Option ℕ → ℕ → List ℕ
length_words None left = codes "at least " ++ decimal left
length_words (Some known) left = decimal known

-- how long two messages were, of which not as many bytes are left
abbrev pub lengths_by : Option ℕ → Option ℕ → ℕ → ℕ → List ℕ
lengths_by known_left known_right left right =
    codes "; " ++ length_words known_left left ++ (if left == 1 then codes " byte in A, " else codes " bytes in A, ")
    ++ length_words known_right right ++ codes " in B"

-- how long both messages were that rules have left, where these have not left as many bytes of each
abbrev pub lengths_words : List RuleValue → List ℕ → List ℕ → List ℕ
lengths_words rules xs ys =
    if length xs == length ys then [] else lengths_by (known_length rules xs) (known_length rules ys) (length xs) (length ys)

-- where two messages differ: at which byte first, what both have there, and how many more bytes differ
abbrev pub both_words : List RuleValue → List ℕ → List ℕ → List Column → List ℕ
both_words rules xs ys columns =
    first_words rules xs ys (position_or_len differs columns) (slice_get columns (position_or_len differs columns))
    ++ others_words (differing columns)

-- so many bytes that one message has alone are told
abbrev pub told_alone : ℕ
told_alone = 8

-- where so many bytes stand that one log has alone, from this place of its message on
abbrev pub alone_where : PairLog → ℕ → ℕ → List ℕ
alone_where log count place =
    if count == 1 then codes ": byte " ++ decimal (place + 1) ++ codes " only in " ++ letter log ++ codes ": "
    else codes ": " ++ decimal count ++ codes " bytes only in " ++ letter log ++ codes ", from byte " ++ decimal (place + 1) ++ codes " on: "

-- how many of so many bytes are not told, if some are not
abbrev pub untold_words : ℕ → List ℕ
untold_words count = if nat_le count told_alone then [] else codes " and " ++ decimal (count - told_alone) ++ codes " more"

-- so many bytes that one log has alone, from this place of its message on
abbrev pub alone_words : List RuleValue → PairLog → ℕ → ℕ → List ℕ → List ℕ
alone_words rules log count place bytes =
    alone_where log count place ++ codes "<b>" ++ piece_text rules bytes place (min count told_alone) ++ codes "</b>" ++ untold_words count

-- a message has bytes that the other one, which is shorter, has not; and else they are the same, where so many columns
-- differ
abbrev pub has_alone : List ℕ → List ℕ → ℕ → Bool
has_alone own other count = nat_lt (length other) (length own) && count == length own - length other

-- where two messages differ: one has bytes more than the other, or they are others
abbrev pub where_words : List RuleValue → List ℕ → List ℕ → List Column → List ℕ
where_words rules xs ys columns =
    if has_alone xs ys (differing columns) then alone_words rules A (differing columns) (position_or_len differs columns) xs
    else if has_alone ys xs (differing columns) then alone_words rules B (differing columns) (position_or_len differs columns) ys
    else both_words rules xs ys columns

-- how two messages that rules have left differ: where, and how long they were
abbrev pub byte_words : List RuleValue → List ℕ → List ℕ → List ℕ
byte_words rules xs ys = where_words rules xs ys (beside xs ys) ++ lengths_words rules xs ys
