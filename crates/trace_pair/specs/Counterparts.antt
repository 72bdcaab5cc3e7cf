-- Which items of two logs stand beside each other, and which bytes of their messages a chart marks.
use Rattle.std.specs.Prelude.{ℕ, ◌+◌, ◌==◌, Bool, true, false, ◌&&◌, List, [], ◌∷◌, Option, Some, None, slice_get, if◌then◌else◌}
use Rattle.shown_rows.specs.Rows.{is_change, left_in, right_in}
use Rattle.uds_difference.specs.Likeness.{same_bytes}
use Rattle.uds_difference.specs.declared.row.Row.{Row}
use Rattle.uds_difference.specs.declared.row.Row.TheVariants.{Same, Changed, OnlyLeft, OnlyRight}
use Rattle.trace_report.specs.Items.{PlacedItemValue, RowMessageValue, items_in}
use Rattle.trace_report.specs.Roles.{is_answer_role, begins_item}
use Rattle.trace_report.specs.Session.{SessionValue}
use Rattle.trace_report.specs.declared.roles.MessageRole.{MessageRole}
use Rattle.trace_pair.specs.declared.item_row.RowPlace.{RowPlace}
use Rattle.pair_words.specs.declared.log.PairLog.{PairLog}
use Rattle.pair_words.specs.declared.log.PairLog.TheVariants.{A, B}
use Rattle.trace_pair.specs.ItemRows.{outcome_by, place_in}
use Rattle.trace_pair.specs.ItemWords.{same_outcome}
use Rattle.pair_words.specs.Logs.{has_item}

-- what a chart is of: a log, and both sessions with the rows that set them side by side
pub record Charted : Type 0 where
  pub log : PairLog
  pub left : SessionValue
  pub right : SessionValue
  pub rows : List Row

-- The row of an item.

-- a row behind so many items of both logs
abbrev pub row_behind : ℕ → ℕ → Row → RowPlace
row_behind left right kind = record { kind = kind; left = left; right = right }

-- the row has the item of this number of a log, counted from 1
abbrev pub has_number : PairLog → ℕ → RowPlace → Bool
has_number log number here = has_item log here.kind && place_in log here + 1 == number

-- the first of these rows that has the item of this number of a log, where so many items of both stand before them
abbrev pub row_from : PairLog → ℕ → ℕ → ℕ → List Row → Option RowPlace
row_from log number left right [] = None
row_from log number left right (row ∷ rows) =
    if has_number log number (row_behind left right row) then Some (row_behind left right row)
    else row_from log number (left + left_in row) (right + right_in row) rows

-- the row that has the item of this number of a log, if one has it
abbrev pub row_with : PairLog → ℕ → List Row → Option RowPlace
row_with log number rows = row_from log number 0 0 rows

-- an item that stands in this row is not the same in both logs
abbrev pub is_other_in : Option RowPlace → Bool
is_other_in None = false
is_other_in (Some here) = is_change here.kind

-- the item of this number of a chart's log is not the same in both
abbrev pub is_other : Charted → ℕ → Bool
is_other chart number = is_other_in (row_with chart.log number chart.rows)

-- Marks.

-- what a chart marks of an item: the message that begins it, or the answer, or both, with those of the other log
pub record Marked : Type 0 where
  pub begin : Option (List ℕ)
  pub answer : Option (List ℕ)

-- bytes beside which others are marked: where they differ
abbrev pub if_other : List ℕ → List ℕ → Option (List ℕ)
if_other own other = if same_bytes own other then None else Some other

-- the bytes of an answer beside which another is marked, where both have the same outcome
abbrev pub answer_if : Option RowMessageValue → Option RowMessageValue → Bool → Option (List ℕ)
answer_if (Some own) (Some other) same = if same then if_other own.bytes other.bytes else None
answer_if _ _ same = None

-- the answer of an item beside which that of another is marked: both have the same outcome
abbrev pub answer_beside : PlacedItemValue → PlacedItemValue → Option (List ℕ)
answer_beside own other =
    answer_if own.answer other.answer (same_outcome (outcome_by own.begin.bytes own.answer) (outcome_by other.begin.bytes other.answer))

-- what a chart marks of an item, beside the one that it changed to
abbrev pub marks : Option PlacedItemValue → Option PlacedItemValue → Option Marked
marks (Some own) (Some other) = Some (record {
  begin = if_other own.begin.bytes other.begin.bytes;
  answer = answer_beside own other;
})
marks own other = None

-- two items stand in the row that changed; only these have marks
abbrev pub is_changed : Row → Bool
is_changed Same = false
is_changed Changed = true
is_changed OnlyLeft = false
is_changed OnlyRight = false

-- the item of a session at a place, where it stands in a row of two that changed
abbrev pub changed_item : Row → SessionValue → ℕ → Option PlacedItemValue
changed_item kind session place = if is_changed kind then slice_get (items_in session.rows) place else None

-- what the chart of a log marks of two items, of which the first one is of the left log
abbrev pub marks_of : PairLog → Option PlacedItemValue → Option PlacedItemValue → Option Marked
marks_of A left right = marks left right
marks_of B left right = marks right left

-- what a chart marks of an item that stands in this row
abbrev pub marks_in : Charted → Option RowPlace → Option Marked
marks_in chart None = None
marks_in chart (Some here) = marks_of chart.log (changed_item here.kind chart.left here.left) (changed_item here.kind chart.right here.right)

-- what a chart marks of the item of this number
abbrev pub marked_at : Charted → ℕ → Option Marked
marked_at chart number = marks_in chart (row_with chart.log number chart.rows)

-- the message of the other log beside which one of this role is written, if it is
abbrev pub counterpart : Option Marked → MessageRole → Option (List ℕ)
counterpart None is = None
counterpart (Some marked) is = if begins_item is then marked.begin else if is_answer_role is then marked.answer else None
