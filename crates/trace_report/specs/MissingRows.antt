-- The rows of what is missing: answers, frames that were dropped, and messages that are not whole.
use Rattle.std.specs.Prelude.{ℕ, Bool, ◌&&◌, List, [], ◌++◌, codes, None, if◌then◌else◌}
use Rattle.std.specs.Fmt.{decimal}
use Rattle.direction.specs.declared.Dir.{Dir}
use Rattle.isotp_pdu.specs.declared.PduFault.{PduFault}
use Rattle.isotp_receive.specs.declared.TheConstants.{MESSAGE_LIMIT}
use Rattle.isotp_receive.specs.declared.event.Cause.{Cause}
use Rattle.isotp_receive.specs.declared.event.Ended.{Ended}
use Rattle.isotp_receive.specs.declared.event.Reason.{Reason}
use Rattle.trace_canon.specs.declared.reception_starts.FramePlace.{FramePlace}
use Rattle.trace_text.specs.RemarkLines.{cause_text, reason_text}
use Rattle.trace_report.specs.Targets.{target_if}
use Rattle.trace_report.specs.declared.targets.LinkTarget.TheVariants.{Line, Side}
use Rattle.trace_report.specs.Durations.{seconds_between}
use Rattle.trace_text.specs.Words.{direction_text}
use Rattle.trace_report.specs.Rows.{cell_front, cell_end, item_repeated, no_item, row_front}
use Rattle.direction.specs.declared.Dir.TheVariants as dir
use Rattle.isotp_pdu.specs.declared.PduFault.TheVariants as pdu
use Rattle.isotp_receive.specs.declared.event.Cause.TheVariants as cause
use Rattle.isotp_receive.specs.declared.event.Reason.TheVariants as reason
use Rattle.trace_report.specs.declared.cells.Arrow.TheVariants as arrow
use Rattle.trace_report.specs.declared.row.Missing.{Missing}
use Rattle.trace_report.specs.declared.row.Missing.TheVariants as missing
use Rattle.trace_report.specs.declared.row.Silence.{Silence}
use Rattle.trace_report.specs.declared.row.Silence.TheVariants.{Suppressed, ToAllUnits, Unanswered}

-- the class of the row of an item without an answer: it stands out where one was due
abbrev pub no_answer_class : Silence → List ℕ
no_answer_class Suppressed = codes "p"
no_answer_class ToAllUnits = codes "p"
no_answer_class Unanswered = codes "m"

-- what stands in front of that row
abbrev pub no_answer_front : ℕ → Silence → List ℕ
no_answer_front number silence =
    row_front (record { class = no_answer_class silence; target = None; item = item_repeated number; lines = []; time = [] })

-- an item without an answer, in words
abbrev pub no_answer_words : ℕ → Silence → List ℕ
no_answer_words number Suppressed = codes "<b>silent</b> <i>item " ++ decimal number ++ codes " asked for no positive answer</i>"
no_answer_words number ToAllUnits = codes "<b>no answer</b> <i>to item " ++ decimal number ++ codes ", which went to all units</i>"
no_answer_words number Unanswered = codes "<b>no answer</b> <i>to item " ++ decimal number ++ codes "</i>"

-- the row of an item without an answer
abbrev pub no_answer_row : ℕ → Silence → List ℕ
no_answer_row number silence =
    no_answer_front number silence ++ cell_front dir.Unit ++ no_answer_words number silence ++ cell_end dir.Unit arrow.Barred

-- where a frame stands, in a row to which links lead or not
abbrev pub frame_front : Bool → ℕ → FramePlace → List ℕ
frame_front linked origin place = row_front (record {
  class = codes "x";
  target = target_if linked (Line place.line);
  item = no_item;
  lines = decimal place.line;
  time = seconds_between origin place.micros;
})

-- why a frame has no layout, for a reader who knows no ISO 15765-2
abbrev pub layout_fault_words : PduFault → List ℕ
layout_fault_words pdu.Remote = codes "it carries no data"
layout_fault_words pdu.FrameLength = codes "no CAN frame has this many bytes"
layout_fault_words pdu.Empty = codes "it has no byte"
layout_fault_words pdu.UnknownKind = codes "its first byte is of no kind of ISO-TP frame"
layout_fault_words pdu.SingleLength = codes "its length does not fit the length that it tells"
layout_fault_words pdu.FirstLength = codes "its length, or the one that it announces, is that of no first frame"
layout_fault_words pdu.FlowShort = codes "it has fewer than 3 bytes"
layout_fault_words pdu.FlowStatus = codes "its status is none of continue, wait and overflow"

-- words beside what a row tells
abbrev pub aside : List ℕ → List ℕ
aside words = codes " <i>" ++ words ++ codes "</i>"

-- why a frame was dropped, for a reader who knows no ISO 15765-2; where it ended a reception too, the row of that says
-- it
abbrev pub reason_words : Reason → List ℕ
reason_words (reason.Pdu fault) = aside (layout_fault_words fault)
reason_words reason.FlowUnexpected = aside (codes "the other side was sending nothing that it could be for")
reason_words reason.NextUnexpected = aside (codes "no message was under way that it goes on with")
reason_words reason.NextLate = []
reason_words (reason.NextSequence expected found) = []
reason_words reason.NextLength = []
reason_words reason.FunctionalNotSingle = aside (codes "what is sent to all units is one single frame")
reason_words (reason.TooLong announced) = aside (codes "more than the limit of " ++ decimal MESSAGE_LIMIT)

-- why a reception ended, for a reader who knows no ISO 15765-2
abbrev pub cause_words : Cause → List ℕ
cause_words cause.NewStart = codes "another message of this side began before its last frame"
cause_words cause.Overflow = codes "the other side said that it has no room"
cause_words cause.Late = codes "its next frame came after more than 1 s"
cause_words cause.Sequence = codes "a frame is missing, came twice or out of order"
cause_words cause.Length = codes "a frame has another length than its first one"

-- a frame of this side that was dropped, in words
abbrev pub dropped_words : Dir → Reason → List ℕ
dropped_words d why = codes "<b>dropped</b> <i>" ++ direction_text d ++ codes " frame:</i> <em>" ++ reason_text why ++ codes "</em>" ++ reason_words why

-- the row of a frame that was dropped, to which links lead or not
abbrev pub dropped_row : Bool → ℕ → FramePlace → Dir → Reason → List ℕ
dropped_row linked origin place d why = frame_front linked origin place ++ cell_front d ++ dropped_words d why ++ cell_end d arrow.Crossed

-- a message of this direction that is not whole: where it began, and how many bytes were announced
abbrev pub partial_text : Dir → ℕ → ℕ → List ℕ
partial_text d line len = direction_text d ++ codes " message from line " ++ decimal line ++ codes ", " ++ decimal len ++ codes " bytes announced:"

-- a reception that ended, in words
abbrev pub ended_words : Ended → List ℕ
ended_words end =
    codes "<b>ended</b> <i>" ++ partial_text end.dir end.begun_line end.len ++ codes "</i> <em>" ++ cause_text end.cause ++ codes "</em> <i>"
    ++ cause_words end.cause ++ codes "</i>"

-- the row of a frame that ended a reception, to which links lead or not
abbrev pub ended_row : Bool → ℕ → FramePlace → Ended → List ℕ
ended_row linked origin place end =
    frame_front linked origin place ++ cell_front end.dir ++ ended_words end ++ cell_end end.dir arrow.Barred

-- what stands in front of the row of what stands of a side at the end of the log, to which links lead or not
abbrev pub end_front : Bool → Dir → List ℕ
end_front linked d = row_front (record { class = codes "x"; target = target_if linked (Side d); item = no_item; lines = []; time = [] })

-- a reception that stands at the end of the log, in words
abbrev pub unfinished_words : Dir → ℕ → ℕ → List ℕ
unfinished_words d line len = codes "<b>unfinished</b> <i>" ++ partial_text d line len ++ codes " the log ends before its last frame</i>"

-- the row of a reception that stands at the end of the log, to which links lead or not
abbrev pub unfinished_row : Bool → Dir → ℕ → ℕ → List ℕ
unfinished_row linked d line len = end_front linked d ++ cell_front d ++ unfinished_words d line len ++ cell_end d arrow.Barred

-- the row of what is missing, to which links lead or not; to that of a dropped frame they lead only where it says so
abbrev pub missing_row : Bool → ℕ → Missing → List ℕ
missing_row linked origin (missing.NoAnswer number silence) = no_answer_row number silence
missing_row linked origin (missing.Dropped place d own why) = dropped_row (linked && own) origin place d why
missing_row linked origin (missing.Ended place end) = ended_row linked origin place end
missing_row linked origin (missing.Unfinished d line len) = unfinished_row linked d line len
