-- The text of a meaning under rules: a line for each item, numbered from 1 or without a number, in words or as an
-- object of JSON. The messages are as the rules left them.
use Rattle.std.specs.Prelude.{ℕ, ◌+◌, Bool, true, false, List, [], ◌∷◌, ◌++◌, codes, Option, Some, None, if◌then◌else◌}
use Rattle.std.specs.Fmt.{decimal}
use Rattle.uds_exchange.specs.Meaning.{ItemValue, exchange, stray}
use Rattle.uds_message.specs.Message.{sid, is_negative_response, response_code, is_suppressing}
use Rattle.trace_text.specs.Json.{Members, nothing, member, object_line}
use Rattle.trace_text.specs.Json as json
use Rattle.trace_text.specs.declared.item_style.ItemStyle.{ItemStyle}
use Rattle.trace_text.specs.declared.item_style.Numbering.{Numbering}
use Rattle.trace_text.specs.declared.item_style.Numbering.TheVariants.{Shown, Hidden}
use Rattle.trace_text.specs.declared.notation.Notation.{Notation}
use Rattle.trace_text.specs.declared.notation.Notation.TheVariants.{Text, Json}
use Rattle.uds_echo.specs.Echo.{answers_other}
use Rattle.uds_rules.specs.Rule.{RuleValue}
use Rattle.trace_text.specs.RuledText.{ruled_text}
use Rattle.trace_text.specs.Words.{direction_text, service_text, code_text}

-- the answer to a request: negative exactly where its first byte is 7F, the identifier of every negative response
abbrev pub answer_text : List RuleValue → List ℕ → List ℕ
answer_text rules reply =
    if is_negative_response reply then codes "negative " ++ code_text (response_code reply) ++ codes " " ++ ruled_text rules reply
    else codes "positive " ++ ruled_text rules reply

-- what came of a request: its answer; or silence, where it asked for that, and else no answer
abbrev pub outcome_text : List RuleValue → List ℕ → Option (List ℕ) → List ℕ
outcome_text rules request (Some reply) = answer_text rules reply
outcome_text rules request None = if is_suppressing request then codes "silent" else codes "unanswered"

-- what an item is, in words
abbrev pub item_text : List RuleValue → ItemValue → List ℕ
item_text rules (exchange request reply) =
    codes "exchange " ++ service_text (sid request) ++ codes " " ++ ruled_text rules request ++ codes " -> " ++ outcome_text rules request reply
item_text rules (stray d bytes) = codes "stray " ++ direction_text d ++ codes " " ++ ruled_text rules bytes

-- what stands before an item in its line: its number and a space, or nothing
abbrev pub number_text : Numbering → ℕ → List ℕ
number_text Shown number = decimal number ++ codes " "
number_text Hidden number = []

-- the line of an item in words: its number where it is shown, what it is, and a line feed
abbrev pub worded_line : List RuleValue → Numbering → ℕ → ItemValue → List ℕ
worded_line rules numbering number item = number_text numbering number ++ item_text rules item ++ codes "\n"

-- what marks an answer that is other than was asked among the members of an object; no other one is marked
abbrev pub echo_member : Bool → Members → Members
echo_member true later = member (codes "echo") (json.truth false) later
echo_member false later = later

-- an answer to this request as members, by whether it is negative
abbrev pub answer_members : List RuleValue → List ℕ → List ℕ → Members
answer_members rules request reply =
    if is_negative_response reply
    then member (codes "outcome") (json.string (codes "negative")) (member (codes "code") (json.string (code_text (response_code reply)))
    (member (codes "answer") (json.string (ruled_text rules reply)) nothing))
    else member (codes "outcome") (json.string (codes "positive")) (echo_member (answers_other rules request reply)
    (member (codes "answer") (json.string (ruled_text rules reply)) nothing))

-- what came of a request, as members
abbrev pub outcome_members : List RuleValue → List ℕ → Option (List ℕ) → Members
outcome_members rules request (Some reply) = answer_members rules request reply
outcome_members rules request None = member (codes "outcome")
    (json.string (if is_suppressing request then codes "silent" else codes "unanswered")) nothing

-- what an exchange is, as members
abbrev pub exchange_members : List RuleValue → List ℕ → Option (List ℕ) → Members
exchange_members rules request reply =
    member (codes "kind") (json.string (codes "exchange")) (member (codes "service") (json.string (service_text (sid request)))
    (member (codes "request") (json.string (ruled_text rules request)) (outcome_members rules request reply)))

-- what an item is, as members
abbrev pub item_members : List RuleValue → ItemValue → Members
item_members rules (exchange request reply) = exchange_members rules request reply
item_members rules (stray d bytes) =
    member (codes "kind") (json.string (codes "stray")) (member (codes "direction") (json.string (direction_text d))
    (member (codes "message") (json.string (ruled_text rules bytes)) nothing))

-- an item as an object: its number, where shown, and its members
abbrev pub item_object : List RuleValue → Numbering → ℕ → ItemValue → Members
item_object rules Shown number item = member (codes "item") (json.number number) (item_members rules item)
item_object rules Hidden number item = item_members rules item

-- the line of an item, as it is written in this notation
abbrev pub written_line : List RuleValue → Notation → Numbering → ℕ → ItemValue → List ℕ
written_line rules Text numbering number item = worded_line rules numbering number item
written_line rules Json numbering number item = object_line (item_object rules numbering number item)

-- the line of an item in a style
abbrev pub item_line : List RuleValue → ItemStyle → ℕ → ItemValue → List ℕ
item_line rules style number item = written_line rules style.notation style.numbering number item

-- the lines of items, the first of which has this number
abbrev pub list_text_from : List RuleValue → ItemStyle → ℕ → List ItemValue → List ℕ
list_text_from rules style number [] = []
list_text_from rules style number (item ∷ later) = item_line rules style number item ++ list_text_from rules style (number + 1) later

-- the text of the items, from number 1 on
abbrev pub list_text : List RuleValue → ItemStyle → List ItemValue → List ℕ
list_text rules style items = list_text_from rules style 1 items
