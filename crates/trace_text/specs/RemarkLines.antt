-- The lines that explain a log: of a reception that ended without its message, of a frame that was dropped, of a
-- reception that stands at the end, and of the counts. Each is written in words or as an object of JSON.
use Rattle.std.specs.Prelude.{ℕ, List, [], ◌∷◌, ◌++◌, codes}
use Rattle.std.specs.Fmt.{decimal}
use Rattle.std.specs.List.{flat_map}
use Rattle.can_log.specs.Digits.{hexadecimal}
use Rattle.direction.specs.declared.Dir.{Dir}
use Rattle.isotp_pdu.specs.declared.PduFault.{PduFault}
use Rattle.isotp_pdu.specs.declared.PduFault.TheVariants as pdu
use Rattle.isotp_receive.specs.declared.event.Cause.{Cause}
use Rattle.isotp_receive.specs.declared.event.Cause.TheVariants as cause
use Rattle.isotp_receive.specs.declared.event.Reason.{Reason}
use Rattle.isotp_receive.specs.declared.event.Reason.TheVariants as reason
use Rattle.trace_text.specs.Json.{Members, nothing, member, object_line}
use Rattle.trace_text.specs.Json as json
use Rattle.trace_text.specs.declared.notation.Notation.{Notation}
use Rattle.trace_text.specs.declared.notation.Notation.TheVariants.{Text, Json}
use Rattle.trace_text.specs.declared.remark.Remark.{Remark}
use Rattle.trace_text.specs.declared.remark.Remark.TheVariants as remark
use Rattle.trace_log.specs.declared.summary.Summary.{Summary}
use Rattle.trace_log.specs.Summing.{named_counts}
use Rattle.trace_text.specs.Words.{direction_text}

-- why a reception ended
abbrev pub cause_text : Cause → List ℕ
cause_text cause.NewStart = codes "new start"
cause_text cause.Overflow = codes "overflow"
cause_text cause.Late = codes "late"
cause_text cause.Sequence = codes "sequence"
cause_text cause.Length = codes "length"

-- why a frame has no layout
abbrev pub layout_fault_text : PduFault → List ℕ
layout_fault_text pdu.Remote = codes "remote frame"
layout_fault_text pdu.FrameLength = codes "frame length"
layout_fault_text pdu.Empty = codes "empty frame"
layout_fault_text pdu.UnknownKind = codes "unknown kind"
layout_fault_text pdu.SingleLength = codes "single frame length"
layout_fault_text pdu.FirstLength = codes "first frame length"
layout_fault_text pdu.FlowShort = codes "flow control too short"
layout_fault_text pdu.FlowStatus = codes "flow control status"

-- why a frame was dropped: sequence numbers in one hexadecimal digit, lengths in decimal
abbrev pub reason_text : Reason → List ℕ
reason_text (reason.Pdu fault) = layout_fault_text fault
reason_text reason.FlowUnexpected = codes "flow control unexpected"
reason_text reason.NextUnexpected = codes "consecutive frame unexpected"
reason_text reason.NextLate = codes "consecutive frame late"
reason_text (reason.NextSequence expected found) =
    codes "sequence number " ++ hexadecimal 1 expected ++ codes " expected, " ++ hexadecimal 1 found ++ codes " found"
reason_text reason.NextLength = codes "consecutive frame length"
reason_text reason.FunctionalNotSingle = codes "functional frame not single"
reason_text (reason.TooLong announced) = decimal announced ++ codes " bytes announced"

-- a reception, by its direction, the line of its first frame and the length that this frame announced
abbrev pub reception_text : Dir → ℕ → ℕ → List ℕ
reception_text d line len = direction_text d ++ codes " reception from line " ++ decimal line ++ codes " of " ++ decimal len ++ codes " bytes "

-- the reason, and the end of its line
abbrev pub reason_line : Reason → List ℕ
reason_line reason = reason_text reason ++ codes "\n"

-- a count in words: its name and its number
abbrev pub count_text : List ℕ × ℕ → List ℕ
count_text count = count.0 ++ codes " " ++ decimal count.1

-- counts in words, a space before each but the first
abbrev pub counts_text : List (List ℕ × ℕ) → List ℕ
counts_text [] = []
counts_text (count ∷ later) = count_text count ++ flat_map (λ more. codes " " ++ count_text more) later

-- the line of the counts
abbrev pub summary_line : Summary → List ℕ
summary_line summary = counts_text (named_counts summary) ++ codes "\n"

-- the line of a remark in words
abbrev pub remark_line : Remark → List ℕ
remark_line (remark.Ended line ended) =
    codes "line " ++ decimal line ++ codes ": " ++ reception_text ended.dir ended.begun_line ended.len
    ++ codes "ended: " ++ cause_text ended.cause ++ codes "\n"
remark_line (remark.Dropped line d reason) =
    codes "line " ++ decimal line ++ codes ": " ++ direction_text d ++ codes " frame dropped: " ++ reason_line reason
remark_line (remark.Unfinished d line len) = codes "end: " ++ reception_text d line len ++ codes "unfinished\n"
remark_line (remark.Counts summary) = summary_line summary

-- as JSON: a reason of words alone
abbrev pub named_reason : List ℕ → Members
named_reason name = member (codes "reason") (json.string name) nothing

-- why a frame was dropped, the numbers apart from the words
abbrev pub reason_members : Reason → Members
reason_members (reason.Pdu fault) = named_reason (layout_fault_text fault)
reason_members reason.FlowUnexpected = named_reason (reason_text reason.FlowUnexpected)
reason_members reason.NextUnexpected = named_reason (reason_text reason.NextUnexpected)
reason_members reason.NextLate = named_reason (reason_text reason.NextLate)
reason_members (reason.NextSequence expected found) =
    member (codes "reason") (json.string (codes "sequence number")) (member (codes "expected") (json.number expected)
    (member (codes "found") (json.number found) nothing))
reason_members reason.NextLength = named_reason (reason_text reason.NextLength)
reason_members reason.FunctionalNotSingle = named_reason (reason_text reason.FunctionalNotSingle)
reason_members (reason.TooLong announced) =
    member (codes "reason") (json.string (codes "bytes announced")) (member (codes "announced") (json.number announced) nothing)

-- counts, a member each
abbrev pub count_members : List (List ℕ × ℕ) → Members
count_members [] = nothing
count_members (count ∷ later) = member count.0 (json.number count.1) (count_members later)

-- the counts
abbrev pub summary_members : Summary → Members
summary_members summary = member (codes "event") (json.string (codes "counts")) (count_members (named_counts summary))

-- a remark
abbrev pub remark_members : Remark → Members
remark_members (remark.Ended line ended) =
    member (codes "line") (json.number line) (member (codes "event") (json.string (codes "ended"))
    (member (codes "direction") (json.string (direction_text ended.dir)) (member (codes "begun_line") (json.number ended.begun_line)
    (member (codes "length") (json.number ended.len) (member (codes "cause") (json.string (cause_text ended.cause)) nothing)))))
remark_members (remark.Dropped line d reason) =
    member (codes "line") (json.number line) (member (codes "event") (json.string (codes "dropped"))
    (member (codes "direction") (json.string (direction_text d)) (reason_members reason)))
remark_members (remark.Unfinished d line len) =
    member (codes "event") (json.string (codes "unfinished")) (member (codes "direction") (json.string (direction_text d))
    (member (codes "begun_line") (json.number line) (member (codes "length") (json.number len) nothing)))
remark_members (remark.Counts summary) = summary_members summary

-- the line of a remark in a notation
abbrev pub remark_text : Notation → Remark → List ℕ
remark_text Text told = remark_line told
remark_text Json told = object_line (remark_members told)
