-- Items as rows tell them: the messages with what they are, and when they were.
use Rattle.std.specs.Prelude.{ℕ, Bool, List, [], ◌++◌, codes, max, min, Option, Some, None, unwrap_or, if◌then◌else◌}
use Rattle.uds_message.specs.Message.{is_suppressing}
use Rattle.uds_rules.specs.Rule.{RuleValue}
use Rattle.trace_report.specs.Roles.{is_request_role, asked_at}
use Rattle.trace_report.specs.Items.{RowMessageValue, PlacedItemValue}
use Rattle.trace_report.specs.MessageRows.{further_note, named_lines}
use Rattle.shown_bytes.specs.Data.{data_text}
use Rattle.trace_report.specs.Durations.{seconds_between}
use Rattle.trace_report.specs.declared.row.MessagePlace.{MessagePlace}
use Rattle.pair_words.specs.declared.log.PairLog.{PairLog}
use Rattle.pair_words.specs.Logs.{letter_mark}
use Rattle.trace_pair.specs.PartedRoles.{parted_role_words}

-- a message that rules have left: what it is, and its bytes
abbrev pub told_message : List RuleValue → RowMessageValue → List ℕ
told_message rules sent = parted_role_words sent.role sent.dir sent.bytes ++ data_text rules sent.bytes

-- what stands in place of an answer
abbrev pub no_answer_text : Bool → List ℕ
no_answer_text silent = if silent then codes "<b>silent</b>" else codes "<b class=\"no\">no answer</b>"

-- the answer to a request, or what stands in its place
abbrev pub told_answer : List RuleValue → List ℕ → Option RowMessageValue → List ℕ
told_answer rules request None = no_answer_text (is_suppressing request)
told_answer rules request (Some reply) = told_message rules reply

-- an item: a request with its answer behind an arrow, or a message
abbrev pub told_item : List RuleValue → PlacedItemValue → List ℕ
told_item rules item =
    told_message rules item.begin
    ++ (if is_request_role item.begin.role then codes " &#8594; " ++ told_answer rules item.begin.bytes item.answer else [])

-- the last message of an item
abbrev pub last_message : PlacedItemValue → RowMessageValue
last_message item = unwrap_or item.answer item.begin

-- the lines of two messages, from the least to the greatest of their frames: one may begin before the other, and end
-- behind it
abbrev pub lines_of_both : MessagePlace → MessagePlace → List ℕ
lines_of_both begin last = named_lines (min begin.first.line last.first.line) (max begin.last.line last.last.line)

-- when an item was that begins with one message and ends with another, in a log whose first frame has the time `origin`
abbrev pub item_note : PairLog → ℕ → RowMessageValue → RowMessageValue → List ℕ
item_note log origin begin last =
    codes "<i>" ++ letter_mark log ++ lines_of_both begin.place last.place ++ codes ", " ++ seconds_between origin begin.place.last.micros
    ++ codes "&#160;s" ++ further_note (asked_at last.role) last.place.first.micros ++ codes "</i>"

-- where an item stands in its log, and when it was
abbrev pub note_of : PairLog → ℕ → PlacedItemValue → List ℕ
note_of log origin item = item_note log origin item.begin (last_message item)
