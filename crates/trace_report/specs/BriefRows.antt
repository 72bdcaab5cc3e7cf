-- The rows of messages that rules have left, and of items without an answer, in blocks that are folded at first: the
-- front of a row, and one line of words without a shape. What needs attention has its full row there, too.
use Rattle.std.specs.Prelude.{ℕ, true, List, [], ◌++◌, codes, if◌then◌else◌}
use Rattle.std.specs.Fmt.{decimal}
use Rattle.direction.specs.declared.Dir.{Dir}
use Rattle.direction.specs.declared.Dir.TheVariants as dir
use Rattle.uds_message.specs.Message.{sid}
use Rattle.uds_rules.specs.Rule.{RuleValue}
use Rattle.trace_report.specs.declared.row.MessagePlace.{MessagePlace}
use Rattle.trace_report.specs.declared.roles.MessageRole.{MessageRole}
use Rattle.trace_report.specs.Targets.{side_text}
use Rattle.shown_bytes.specs.Data.{brief_data}
use Rattle.trace_text.specs.Words.{service_text}
use Rattle.trace_report.specs.MessageRows.{message_front, after_text, message_row}
use Rattle.trace_report.specs.MissingRows.{missing_row, no_answer_front, no_answer_row}
use Rattle.trace_report.specs.Sorts.{message_needs_attention, silence_needs_attention}
use Rattle.trace_report.specs.declared.row.Missing.{Missing}
use Rattle.trace_report.specs.declared.row.Missing.TheVariants as missing
use Rattle.trace_report.specs.declared.row.Silence.{Silence}
use Rattle.trace_report.specs.declared.row.Silence.TheVariants.{Suppressed, ToAllUnits, Unanswered}
use Rattle.trace_report.specs.declared.roles.MessageRole.TheVariants as role

-- the word of a message to all units; any other has none
abbrev pub brief_functional : MessagePlace → List ℕ
brief_functional place = if place.is_functional then codes "functional " else []

-- the words of a message that needs no attention, in a block of brief rows; one that does has none there
abbrev pub brief_words : List RuleValue → MessageRole → MessagePlace → List ℕ → List ℕ
brief_words rules role.Request place bytes =
    service_text (sid bytes) ++ codes " request " ++ brief_functional place ++ brief_data rules bytes ++ codes " &#8594;"
brief_words rules (role.Positive asked) place bytes = codes "&#8592; positive " ++ brief_data rules bytes ++ codes " " ++ after_text asked place.first.micros
brief_words rules (role.Negative asked) place bytes = []
brief_words rules (role.Pending asked) place bytes = codes "&#8592; pending " ++ brief_data rules bytes ++ codes " " ++ after_text asked place.first.micros
brief_words rules role.KeepAlive place bytes = codes "keep-alive " ++ brief_functional place ++ brief_data rules bytes ++ codes " &#8594;"
brief_words rules role.Stray place bytes = []

-- the row of a message that needs no attention, in a block of brief rows
abbrev pub brief_row : List RuleValue → ℕ → MessageRole → Dir → MessagePlace → List ℕ → List ℕ
brief_row rules origin is d place bytes =
    message_front true origin is place ++ codes "<td class=\"" ++ side_text d ++ codes "\">"
    ++ brief_words rules is place bytes ++ codes "\n"

-- the row of a message in a block of brief rows: in full, where the message needs attention
abbrev pub brief_message : List RuleValue → ℕ → MessageRole → Dir → MessagePlace → List ℕ → List ℕ
brief_message rules origin is d place bytes =
    if message_needs_attention is then message_row rules origin is d place bytes else brief_row rules origin is d place bytes

-- the words of an item without an answer that needs no attention, in a block of brief rows; one that does has none
-- there
abbrev pub brief_silence : ℕ → Silence → List ℕ
brief_silence number Suppressed = codes "silent: item " ++ decimal number ++ codes " asked for no positive answer"
brief_silence number ToAllUnits = codes "no answer to item " ++ decimal number ++ codes ", which went to all units"
brief_silence number Unanswered = []

-- the row of an item without an answer that needs no attention, in a block of brief rows
abbrev pub brief_silence_row : ℕ → Silence → List ℕ
brief_silence_row number silence =
    no_answer_front number silence ++ codes "<td class=\"" ++ side_text dir.Unit ++ codes "\">" ++ brief_silence number silence ++ codes "\n"

-- the row of an item without an answer in a block of brief rows: in full, where it needs attention
abbrev pub brief_no_answer : ℕ → Silence → List ℕ
brief_no_answer number silence = if silence_needs_attention silence then no_answer_row number silence else brief_silence_row number silence

-- the row of what is missing in a block of brief rows, to which links lead: what is lost needs attention
abbrev pub brief_missing : ℕ → Missing → List ℕ
brief_missing origin (missing.NoAnswer number silence) = brief_no_answer number silence
brief_missing origin (missing.Dropped place d own why) = missing_row true origin (missing.Dropped place d own why)
brief_missing origin (missing.Ended place end) = missing_row true origin (missing.Ended place end)
brief_missing origin (missing.Unfinished d line len) = missing_row true origin (missing.Unfinished d line len)
