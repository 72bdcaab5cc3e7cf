-- The rows of a report: what each tells, what stands in it before its cell of the chart, and that cell. A row is one
-- line of HTML: the number of its item, the lines of the log, the time since the first frame of the two sides, and a
-- cell, in which words stand at the sender's side and an arrow fills the rest. End tags are left out where HTML lets
-- one.
use Rattle.std.specs.Prelude.{ℕ, Bool, List, [], ◌++◌, codes, Option, Some, None}
use Rattle.std.specs.Fmt.{decimal}
use Rattle.direction.specs.declared.Dir.{Dir}
use Rattle.isotp_receive.specs.declared.event.Ended.{Ended}
use Rattle.isotp_receive.specs.declared.event.Reason.{Reason}
use Rattle.trace_canon.specs.declared.reception_starts.FramePlace.{FramePlace}
use Rattle.trace_report.specs.declared.cells.Arrow.{Arrow}
use Rattle.trace_report.specs.declared.row.MessagePlace.{MessagePlace}
use Rattle.trace_report.specs.declared.row.Missing.{Missing}
use Rattle.trace_report.specs.declared.row.SessionRow.{SessionRow}
use Rattle.trace_report.specs.declared.row.Silence.{Silence}
use Rattle.trace_report.specs.declared.roles.MessageRole.{MessageRole}
use Rattle.trace_report.specs.declared.targets.LinkTarget.{LinkTarget}
use Rattle.trace_report.specs.Targets.{identifier, side_text}
use Rattle.trace_report.specs.declared.cells.Arrow.TheVariants as arrow
use Rattle.trace_report.specs.declared.row.Missing.TheVariants as missing
use Rattle.trace_report.specs.declared.row.SessionRow.TheVariants as row

-- What a row tells.
pub data RowValue : Type 0 where
  -- a message: what it is to its item, who sent it, where it stands, and its bytes
  message : MessageRole → Dir → MessagePlace → List ℕ → RowValue
  -- the item of this number has no answer, and why
  no_answer : ℕ → Silence → RowValue
  -- the frame in this place, which this side sent, was dropped; links lead to this row, or the row before is of the
  -- same frame, and they lead there
  dropped : FramePlace → Dir → Bool → Reason → RowValue
  -- the frame in this place ended a reception
  ended : FramePlace → Ended → RowValue
  -- at the end of the log a reception stands: its direction, the line of its first frame, and the bytes that this
  -- announced
  unfinished : Dir → ℕ → ℕ → RowValue

-- what a row tells that is missing, as a row
abbrev pub missing_of : Missing → RowValue
missing_of (missing.NoAnswer number silence) = no_answer number silence
missing_of (missing.Dropped place d linked why) = dropped place d linked why
missing_of (missing.Ended place end) = ended place end
missing_of (missing.Unfinished d line len) = unfinished d line len

-- what a row tells that is lent, as it is
abbrev pub row_of : SessionRow → RowValue
row_of (row.Message sent lent) = message sent.role sent.dir sent.place lent.now
row_of (row.Missing what) = missing_of what

-- What stands in a row before its cell of the chart: the class of the style by which it is shown; the place that it is,
-- if links lead to it; its first cell, that of its item; and what stands in the next two cells, its lines and its time.
pub record RowFrontValue : Type 0 where
  pub class : List ℕ
  pub target : Option LinkTarget
  pub item : List ℕ
  pub lines : List ℕ
  pub time : List ℕ

-- the cell of the item that begins with a row: its number, as the header of the row
abbrev pub item_header : ℕ → List ℕ
item_header number = codes "<th scope=\"row\">" ++ decimal number

-- the cell of the item of another row: its number, repeated
abbrev pub item_repeated : ℕ → List ℕ
item_repeated number = codes "<td>" ++ decimal number

-- the cell of the item of a row that is of none
abbrev pub no_item : List ℕ
no_item = codes "<td>"

-- the end of the tag of a row, behind its class: with the identifier of the row, if links lead to it
abbrev pub tag_end : Option LinkTarget → List ℕ
tag_end None = codes "\">"
tag_end (Some place) = codes "\" id=\"" ++ identifier place ++ codes "\">"

-- a row up to its cell of the chart
abbrev pub row_front : RowFrontValue → List ℕ
row_front front =
    codes "<tr class=\"" ++ front.class ++ tag_end front.target ++ front.item ++ codes "<td>" ++ front.lines ++ codes "<td>" ++ front.time

-- the end of an arrow: a head, a cross, or a bar
abbrev pub arrow_text : Arrow → List ℕ
arrow_text arrow.Headed = []
arrow_text arrow.Crossed = codes "x"
arrow_text arrow.Barred = codes "e"

-- a cell of the chart, up to its words
abbrev pub cell_front : Dir → List ℕ
cell_front d = codes "<td><div class=\"" ++ side_text d ++ codes "\"><div>"

-- a cell of the chart behind its words: the arrow, which is no smaller than this, and the end of the row
abbrev pub cell_end : Dir → Arrow → List ℕ
cell_end d end =
    codes "</div><svg aria-hidden=\"true\" width=\"32\" height=\"12\"><use href=\"#" ++ side_text d ++ arrow_text end ++ codes "\"/></svg></div>\n"
