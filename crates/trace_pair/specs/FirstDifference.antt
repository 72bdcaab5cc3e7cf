-- The first difference as recorded: of each log the rows around it, with a mark at each byte that differs.
use Prim.Native.Nat.{zero, suc}
use Rattle.std.specs.Prelude.{ℕ, ◌+◌, ◌-◌, ◌==◌, Bool, true, false, not, ◌||◌, List, [], ◌∷◌, ◌++◌, codes, drop}
use Rattle.std.specs.Prelude.{length, max, min, nat_le, take, Option, Some, None, slice_get, if◌then◌else◌}
use Rattle.byte_columns.specs.declared.column.Column.{Column}
use Rattle.byte_columns.specs.Columns.{beside}
use Rattle.direction.specs.declared.Dir.{Dir}
use Rattle.shown_rows.specs.declared.changes.Change.{Change}
use Rattle.shown_rows.specs.Changes.{changes}
use Rattle.uds_difference.specs.declared.row.Row.{Row}
use Rattle.trace_report.specs.Blocks.{begins_exchange}
use Rattle.trace_report.specs.Items.{begins, rows_before}
use Rattle.trace_report.specs.Rows.{RowValue, message, no_answer, dropped, ended, unfinished}
use Rattle.trace_report.specs.MissingRows.{dropped_row, ended_row, no_answer_row, unfinished_row}
use Rattle.trace_report.specs.MessageRows.{shown_row}
use Rattle.trace_report.specs.Session.{SessionValue}
use Rattle.shown_bytes.specs.Data.{data_text, known_length}
use Rattle.uds_rules.specs.Rule.{RuleValue}
use Rattle.shown_bytes.specs.Letters.{has_word}
use Rattle.trace_report.specs.declared.row.MessagePlace.{MessagePlace}
use Rattle.trace_report.specs.declared.roles.MessageRole.{MessageRole}
use Rattle.pair_words.specs.declared.column_lines.ShownLogs.TheVariants.{Only}
use Rattle.pair_words.specs.declared.log.PairLog.{PairLog}
use Rattle.pair_words.specs.declared.log.PairLog.TheVariants.{A, B}
use Rattle.pair_words.specs.ChartWords.{body_start, chart_end, chart_head, items_end}
use Rattle.trace_pair.specs.ChangeWords.{change_line}
use Rattle.pair_words.specs.ColumnLines.{lines_text}
use Rattle.trace_pair.specs.Counterparts.{Charted, Marked, counterpart, is_other, marked_at}
use Rattle.trace_pair.specs.ItemRows.{are_masked}
use Rattle.pair_words.specs.Logs.{lettered_name, own_count}
use Rattle.trace_pair.specs.PartedRoles.{parted_role_words}
use Rattle.trace_pair.specs.Losses.{first_row}
use Rattle.trace_pair.specs.Sessions.{values_in}
use Rattle.trace_pair.specs.Verdict.{is_lossy}
use Rattle.trace_pair.specs.Widths.{session_classes}

-- The rows that a chart has.

-- a chart has so many rows at most
abbrev pub most_rows : ℕ
most_rows = 40

-- and of these so many at most before the row with which the item begins
abbrev pub most_before : ℕ
most_before = 8

-- an exchange begins with the row, where there is one
abbrev pub asks : Option RowValue → Bool
asks None = false
asks (Some row) = begins_exchange row

-- where the last request stands among so many rows, the first ones; 0 where none of these is a request
abbrev pub last_request : ℕ → List RowValue → ℕ
last_request zero rows = 0
last_request (suc count) rows = if asks (slice_get rows count) then count else last_request count rows

-- how many rows stand before the first request; all, where none of them is one
abbrev pub before_request : List RowValue → ℕ
before_request [] = 0
before_request (row ∷ rows) = if begins_exchange row then 0 else 1 + before_request rows

-- A chart around the item of a place begins with the last request that stands at or before the row with which the item
-- before it begins, or where there is none, with the first row; but no farther before the item's own than a chart goes.
-- To the first item of a log belongs what is lost in front of it: so a chart that has that item begins with the log's
-- first row.
abbrev pub chart_from : ℕ → List RowValue → ℕ
chart_from item rows = max (rows_before item rows - most_before) (last_request (suc (first_row (item - 1) rows)) rows)

-- a chart around the item of a place ends before the first request that stands at or behind the row with which the
-- second item behind it begins
abbrev pub chart_to : ℕ → List RowValue → ℕ
chart_to item rows = rows_before (item + 2) rows + before_request (drop (rows_before (item + 2) rows) rows)

-- the rows of a chart around the item of a place
abbrev pub chart_rows : ℕ → List RowValue → List RowValue
chart_rows item rows = take (min most_rows (chart_to item rows - chart_from item rows)) (drop (chart_from item rows) rows)

-- how many rows a chart leaves out of those that stand around the item of a place
abbrev pub rows_more : ℕ → List RowValue → ℕ
rows_more item rows = chart_to item rows - chart_from item rows - most_rows

-- how many of so many items are left, from the first on that begins at or behind a place of the rows
abbrev pub items_left : ℕ → ℕ → ℕ → List RowValue → ℕ
items_left place item zero rows = 0
items_left place item (suc more) rows = if nat_le place (rows_before item rows) then suc more else items_left place (item + 1) more rows

-- how many of so many items, from the one of a place on, begin behind the rows that stand around that
abbrev pub items_more : ℕ → ℕ → List RowValue → ℕ
items_more item count rows = items_left (chart_to item rows) item count rows

-- Their text.

-- two messages as their columns, by which log the first one is of
abbrev pub beside_of : PairLog → List ℕ → List ℕ → List Column
beside_of A own other = beside own other
beside_of B own other = beside other own

-- the bytes of a message that rules have left, beside the one of the other log, where they mask neither
abbrev pub beside_text : List RuleValue → PairLog → List ℕ → List ℕ → List ℕ
beside_text rules log bytes other =
    if are_masked rules bytes other then data_text rules bytes
    else lines_text (Only log) (has_word bytes || has_word other) (beside_of log bytes other)

-- the bytes of a message: beside the one of the other log, if there is one
abbrev pub chart_data : List RuleValue → PairLog → List ℕ → Option (List ℕ) → List ℕ
chart_data rules log bytes None = data_text rules bytes
chart_data rules log bytes (Some other) = beside_text rules log bytes other

-- the row of a message in the chart of a log, which marks so much of its item: when it was, what it is, its bytes, and
-- its arrow
abbrev pub chart_message : List RuleValue → PairLog → Option Marked → ℕ → MessageRole → Dir → MessagePlace → List ℕ → List ℕ
chart_message rules log marked origin is d place bytes =
    shown_row (record {
      linked = false;
      origin = origin;
      is = is;
      d = d;
      place = place;
      words = parted_role_words is d bytes;
      bytes = chart_data rules log bytes (counterpart marked is);
      count = known_length rules bytes;
    })

-- a row, to which no link leads, with these marks of its item
abbrev pub chart_row : List RuleValue → PairLog → Option Marked → ℕ → RowValue → List ℕ
chart_row rules log marked origin (message is d place bytes) = chart_message rules log marked origin is d place bytes
chart_row rules log marked origin (no_answer number silence) = no_answer_row number silence
chart_row rules log marked origin (dropped place d linked why) = dropped_row false origin place d why
chart_row rules log marked origin (ended place end) = ended_row false origin place end
chart_row rules log marked origin (unfinished d line len) = unfinished_row false d line len

-- the number of the item that a row is of: what is lost is of the one that began last before it
abbrev pub number_of : ℕ → RowValue → ℕ
number_of last (message is d place bytes) = place.item
number_of last (no_answer number silence) = number
number_of last (dropped place d linked why) = last
number_of last (ended place end) = last
number_of last (unfinished d line len) = last

-- the number of the item that began last, behind a row
abbrev pub last_begun : ℕ → RowValue → ℕ
last_begun last row = if begins row then number_of last row else last

-- one of both is so, and the other one isn't
abbrev pub is_another : Bool → Bool → Bool
is_another before other = if before then not other else other

-- A body of the table begins with the first row, with each exchange, and where items that are the same in both logs and
-- others stand one behind the other: whether those of the body in front of a row are others.
abbrev pub begins_chart_body : Option Bool → Bool → Bool → Bool
begins_chart_body None asks other = true
begins_chart_body (Some before) asks other = asks || is_another before other

-- rows of a chart, in bodies of the table, behind the body that stands, if one does, and the item that began last
abbrev pub chart_rows_text : Charted → ℕ → Option Bool → ℕ → List RowValue → List ℕ
chart_rows_text chart origin front last [] = []
chart_rows_text chart origin front last (row ∷ rows) =
    body_start (begins_chart_body front (begins_exchange row) (is_other chart (number_of last row))) (is_other chart (number_of last row))
    ++ chart_row chart.left.rules chart.log (marked_at chart (number_of last row)) origin row
    ++ chart_rows_text chart origin (Some (is_other chart (number_of last row))) (last_begun last row) rows

-- The chart of a log around the item of a place, of so many that the difference has from that on. What is lost before
-- its first item is of the item in front of that place, or of the first one.
abbrev pub chart_text : Charted → ℕ → ℕ → SessionValue → List ℕ
chart_text chart item count session =
    chart_head (session_classes session) ++ chart_rows_text chart session.first None (max item 1) (chart_rows item session.rows)
    ++ chart_end (rows_more item session.rows) (chart_to item session.rows == length session.rows) ++ items_end (items_more item count session.rows)
    ++ codes "</table>\n"

-- Both charts.

-- the side of a log in the section of the first difference: its letter, its name, and its chart
abbrev pub side : Charted → List ℕ → ℕ → ℕ → SessionValue → List ℕ
side chart name item count session =
    codes "<section>\n<h3>" ++ lettered_name chart.log name ++ codes "</h3>\n" ++ chart_text chart item count session ++ codes "</section>\n"

-- what the chart of a log is of
abbrev pub charted : PairLog → SessionValue → SessionValue → List Row → Charted
charted log left right rows = record { log = log; left = left; right = right; rows = rows }

-- the number of the first change
abbrev pub first_number : ℕ
first_number = 1

-- the section of a change that is the first of so many: its line, and both logs around it
abbrev pub first_change_text : ℕ → List ℕ → List ℕ → SessionValue → SessionValue → List Row → Change → List ℕ
first_change_text count left_name right_name left right rows here =
    codes "<section id=\"difference\">\n<h2>" ++ (if count == 1 then codes "The difference, as recorded" else codes "The first difference, as recorded") ++ codes "</h2>\n<p>"
    ++ change_line left.rules (count == 1) first_number (is_lossy A left here) (is_lossy B right here) (values_in left) (values_in right) here ++ codes "</p>\n<div class=\"two\">\n"
    ++ side (charted A left right rows) left_name here.left (own_count A here) left ++ side (charted B left right rows) right_name here.right (own_count B here) right
    ++ codes "</div>\n</section>\n"

-- the section of the first of these changes, if there is one
abbrev pub first_if : List ℕ → List ℕ → SessionValue → SessionValue → List Row → List Change → List ℕ
first_if left_name right_name left right rows [] = []
first_if left_name right_name left right rows (here ∷ later) = first_change_text (suc (length later)) left_name right_name left right rows here

-- the section of the first change of two sessions with these rows, if there is one
abbrev pub first_text : List ℕ → List ℕ → SessionValue → SessionValue → List Row → List ℕ
first_text left_name right_name left right rows = first_if left_name right_name left right rows (changes rows)
