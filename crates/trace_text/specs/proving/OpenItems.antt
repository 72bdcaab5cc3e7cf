-- Devices of proof: the object of an item up to the quote and the brace that end it, whatever the item is, as it is
-- said.
use Rattle.std.specs.Prelude.{ℕ, Bool, List, ◌++◌, codes, Option, Some, None, if◌then◌else◌}
use Rattle.std.specs.Fmt.{decimal}
use Rattle.uds_exchange.specs.Meaning.{ItemValue, exchange, stray}
use Rattle.uds_message.specs.Message.{sid, is_negative_response, response_code, is_suppressing}
use Rattle.trace_text.specs.declared.item_style.Numbering.{Numbering}
use Rattle.trace_text.specs.declared.item_style.Numbering.TheVariants.{Shown, Hidden}
use Rattle.uds_echo.specs.Echo.{answers_other}
use Rattle.uds_rules.specs.Rule.{RuleValue}
use Rattle.trace_text.specs.RuledText.{ruled_text}
use Rattle.trace_text.specs.Words.{direction_text, service_text, code_text}

-- the front of the object, up to what the item is
abbrev pub front_of_object : Numbering → ℕ → List ℕ
front_of_object Shown n = codes "{\"item\":" ++ decimal n ++ codes ","
front_of_object Hidden n = codes "{"

-- and up to the word of its kind
abbrev pub front_of_item : Numbering → ℕ → List ℕ
front_of_item numbering n = front_of_object numbering n ++ codes "\"kind\":\""

-- the front of a positive answer, from the quote behind the request on, where it is other than was asked, and where not
abbrev pub front_of_positive : Bool → List ℕ
front_of_positive is_other =
    if is_other then codes "\",\"outcome\":\"positive\",\"echo\":false,\"answer\":\"" else codes "\",\"outcome\":\"positive\",\"answer\":\""

-- the answer to a request, from the quote behind the request on
abbrev pub open_answer : List RuleValue → List ℕ → List ℕ → List ℕ
open_answer rules request reply =
    if is_negative_response reply
    then codes "\",\"outcome\":\"negative\",\"code\":\"" ++ code_text (response_code reply) ++ codes "\",\"answer\":\"" ++ ruled_text rules reply
    else front_of_positive (answers_other rules request reply) ++ ruled_text rules reply

-- what came of a request
abbrev pub open_outcome : List RuleValue → List ℕ → Option (List ℕ) → List ℕ
open_outcome rules request (Some reply) = open_answer rules request reply
open_outcome rules request None = if is_suppressing request then codes "\",\"outcome\":\"silent" else codes "\",\"outcome\":\"unanswered"

-- what an item is, from the word of its kind on
abbrev pub open_item : List RuleValue → ItemValue → List ℕ
open_item rules (exchange request reply) =
    codes "exchange\",\"service\":\"" ++ service_text (sid request) ++ codes "\",\"request\":\"" ++ ruled_text rules request
    ++ open_outcome rules request reply
open_item rules (stray d bytes) = codes "stray\",\"direction\":\"" ++ direction_text d ++ codes "\",\"message\":\"" ++ ruled_text rules bytes

-- and its front before that
abbrev pub open_object : List RuleValue → Numbering → ℕ → ItemValue → List ℕ
open_object rules numbering number item = front_of_item numbering number ++ open_item rules item
