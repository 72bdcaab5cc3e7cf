-- A difference as objects of JSON: one for each row that is not the same in both sessions, and one with the counts.
use Rattle.std.specs.Prelude.{ℕ, ◌+◌, Bool, true, false, not, ◌&&◌, List, [], ◌∷◌, ◌++◌, codes, Option, Some, None, slice_get, if◌then◌else◌}
use Rattle.uds_exchange.specs.Meaning.{ItemValue}
use Rattle.uds_difference.specs.declared.row.Row.{Row}
use Rattle.uds_difference.specs.declared.row.Row.TheVariants.{Same, Changed, OnlyLeft, OnlyRight}
use Rattle.trace_text.specs.Json.{Value, Members, nothing, member, object_line}
use Rattle.trace_text.specs.Json as json
use Rattle.trace_text.specs.ItemLines.{item_object}
use Rattle.trace_text.specs.declared.item_style.Numbering.TheVariants.{Hidden}
use Rattle.shown_rows.specs.Rows.{count_of, is_change, left_in, right_in}
use Rattle.uds_rules.specs.Rule.{RuleValue}
use Rattle.trace_canon.specs.declared.collector.Session.{Session}

-- what becomes of the item of a row
abbrev pub change_word : Row → List ℕ
change_word Same = codes "same"
change_word Changed = codes "changed"
change_word OnlyLeft = codes "removed"
change_word OnlyRight = codes "added"

-- the object that `list` has under rules for an item without numbers, or null
abbrev pub listed_value : List RuleValue → Option ItemValue → Value
listed_value rules (Some item) = json.object (item_object rules Hidden 0 item)
listed_value rules None = json.null

-- what a row has of the left list, where it stands at this place of that
abbrev pub left_value : List RuleValue → List ItemValue → ℕ → Row → Value
left_value rules xs i Same = listed_value rules (slice_get xs i)
left_value rules xs i Changed = listed_value rules (slice_get xs i)
left_value rules xs i OnlyLeft = listed_value rules (slice_get xs i)
left_value rules xs i OnlyRight = json.null

-- and of the right one
abbrev pub right_value : List RuleValue → List ItemValue → ℕ → Row → Value
right_value rules ys j Same = listed_value rules (slice_get ys j)
right_value rules ys j Changed = listed_value rules (slice_get ys j)
right_value rules ys j OnlyLeft = json.null
right_value rules ys j OnlyRight = listed_value rules (slice_get ys j)

-- A row: the number of its change, what becomes of its item, and of both sides the number of its item, or of the one in
-- front of it where it has none.
abbrev pub row_members : List RuleValue → List ItemValue → List ItemValue → ℕ → ℕ → ℕ → Row → Members
row_members rules xs ys change_number i j row =
    member (codes "place") (json.number change_number) (member (codes "change") (json.string (change_word row))
    (member (codes "left_item") (json.number (i + left_in row)) (member (codes "right_item") (json.number (j + right_in row))
    (member (codes "left") (left_value rules xs i row) (member (codes "right") (right_value rules ys j row) nothing)))))

-- its line, where it is a change
abbrev pub row_text : List RuleValue → List ItemValue → List ItemValue → ℕ → ℕ → ℕ → Row → List ℕ
row_text rules xs ys change_number i j row =
    if is_change row then object_line (row_members rules xs ys change_number i j row) else []

-- The number of the last change up to a row, by that of the last one in front of it, and whether the row in front is a
-- change: such rows that follow one another have one number, as they are at one place.
abbrev pub next_change_number : ℕ → Bool → Row → ℕ
next_change_number change_number behind_change row = if is_change row && not behind_change then change_number + 1 else change_number

-- the lines of rows, whose first one stands at these places of both lists
abbrev pub rows_text : List RuleValue → List ItemValue → List ItemValue → ℕ → Bool → ℕ → ℕ → List Row → List ℕ
rows_text rules xs ys change_number behind_change i j [] = []
rows_text rules xs ys change_number behind_change i j (row ∷ rows) =
    row_text rules xs ys (next_change_number change_number behind_change row) i j row
    ++ rows_text rules xs ys (next_change_number change_number behind_change row) (is_change row) (i + left_in row) (j + right_in row) rows

-- how many messages the rules left out of both logs, where there are rules
abbrev pub left_out_members : List RuleValue → ℕ → ℕ → Members
left_out_members [] left right = nothing
left_out_members (rule ∷ rules) left right = member (codes "left_out") (json.pair left right) nothing

-- the counts, whether the script of equal items is known to be a shortest one, and what rules left out
abbrev pub count_members : List RuleValue → Bool → List Row → ℕ → ℕ → Members
count_members rules shortest rows left_out right_out =
    member (codes "same") (json.number (count_of Same rows)) (member (codes "removed") (json.number (count_of OnlyLeft rows))
    (member (codes "added") (json.number (count_of OnlyRight rows)) (member (codes "changed") (json.number (count_of Changed rows))
    (member (codes "shortest") (json.truth shortest) (left_out_members rules left_out right_out)))))

-- the objects of all rows of two sessions
abbrev pub objects_text : List RuleValue → Bool → List Row → Session → Session → List ℕ
objects_text rules shortest rows left right =
    rows_text rules left.meaning right.meaning 0 false 0 0 rows
    ++ object_line (count_members rules shortest rows left.summary.left_out right.summary.left_out)
