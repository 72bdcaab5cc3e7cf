-- The objects of items, in the pieces that are said.
use Rattle.std.proofs.Common.{◌≡◌, ℕ, Bool, true, false, List, ◌++◌, [], refl, sym, ap, ◌∙◌, append_assoc, codes, Option, Some, None}
use Rattle.std.specs.Prelude.{if◌then◌else◌}
use Rattle.std.specs.Fmt.{decimal}
use Rattle.uds_exchange.specs.Meaning.{ItemValue, exchange, stray}
use Rattle.uds_message.specs.Message.{sid, is_negative_response, response_code, is_suppressing}
use Rattle.trace_text.specs.declared.item_style.Numbering.{Numbering}
use Rattle.trace_text.specs.declared.item_style.Numbering.TheVariants.{Shown, Hidden}
use Rattle.trace_text.specs.Json.{Members, nothing, member, object, object_line, value_text}
use Rattle.trace_text.specs.Json as json
use Rattle.uds_echo.specs.Echo.{answers_other}
use Rattle.uds_rules.specs.Rule.{RuleValue}
use Rattle.trace_text.specs.RuledText.{ruled_text}
use Rattle.trace_text.specs.Words.{direction_text, service_text, code_text}
use Rattle.trace_text.specs.ItemLines.{echo_member, outcome_members, item_members, item_object}
use Rattle.trace_text.specs.proving.Spelling.{later_then, members_then}
use Rattle.trace_text.specs.proving.OpenItems.{front_of_positive, open_item, open_object, open_outcome}
use Rattle.trace_text.proofs.JsonTexts.{members_are, line_is}
use Rattle.trace_text.proofs.JoinedTexts.{four_parts, five_parts}

-- what ends an object of an item, and what is behind it
abbrev end_then : List ℕ → List ℕ
end_then behind = codes "\"}" ++ behind

-- members behind a text, to the end of the object
abbrev closed : Members → List ℕ → List ℕ
closed members behind = codes "\"" ++ later_then members (codes "}" ++ behind)

-- an answer, by whether it is negative, or other than was asked
answer_by : (negative is_other : Bool) (code bytes behind : List ℕ)
    → (if negative then codes "\",\"outcome\":\"negative\",\"code\":\"" ++ code ++ codes "\",\"answer\":\"" ++ bytes
    else front_of_positive is_other ++ bytes) ++ end_then behind
    ≡ closed (if negative then member (codes "outcome") (json.string (codes "negative"))
    (member (codes "code") (json.string code) (member (codes "answer") (json.string bytes) nothing))
    else member (codes "outcome") (json.string (codes "positive")) (echo_member is_other (member (codes "answer") (json.string bytes) nothing))) behind
answer_by true is_other code bytes behind = four_parts (codes "\",\"outcome\":\"negative\",\"code\":\"") code (codes "\",\"answer\":\"") bytes
    (end_then behind)
answer_by false true code bytes behind = append_assoc (front_of_positive true) bytes (end_then behind)
answer_by false false code bytes behind = append_assoc (front_of_positive false) bytes (end_then behind)

-- no answer, by whether none was asked for
none_by : (asked : Bool) (behind : List ℕ)
    → (if asked then codes "\",\"outcome\":\"silent" else codes "\",\"outcome\":\"unanswered") ++ end_then behind
    ≡ closed (member (codes "outcome") (json.string (if asked then codes "silent" else codes "unanswered")) nothing) behind
none_by true behind = refl
none_by false behind = refl

outcome_is : (rules : List RuleValue) (request : List ℕ) (reply : Option (List ℕ)) (behind : List ℕ)
    → open_outcome rules request reply ++ end_then behind ≡ closed (outcome_members rules request reply) behind
outcome_is rules request (Some reply) behind = answer_by (is_negative_response reply) (answers_other rules request reply)
    (code_text (response_code reply)) (ruled_text rules reply) behind
outcome_is rules request None behind = none_by (is_suppressing request) behind

-- an item, with its key
item_is : (rules : List RuleValue) (item : ItemValue) (behind : List ℕ)
    → codes "\"kind\":\"" ++ (open_item rules item ++ end_then behind) ≡ members_then (item_members rules item) (codes "}" ++ behind)
item_is rules (exchange request reply) behind =
    let front : List ℕ → List ℕ = λ l.
    codes "\"kind\":\"exchange\",\"service\":\"" ++ (service_text (sid request) ++ (codes "\",\"request\":\"" ++ (ruled_text rules request ++ l))) in
    ap (λ l. codes "\"kind\":\"" ++ l)
    (five_parts (codes "exchange\",\"service\":\"") (service_text (sid request)) (codes "\",\"request\":\"") (ruled_text rules request)
    (open_outcome rules request reply) (end_then behind))
    ∙ ap front (outcome_is rules request reply behind)
item_is rules (stray d bytes) behind =
    ap (λ l. codes "\"kind\":\"" ++ l)
    (four_parts (codes "stray\",\"direction\":\"") (direction_text d) (codes "\",\"message\":\"") (ruled_text rules bytes) (end_then behind))

-- an item that has members is one with a comma in front of them
is_later : (rules : List RuleValue) (item : ItemValue) (behind : List ℕ)
    → codes "," ++ members_then (item_members rules item) behind ≡ later_then (item_members rules item) behind
is_later rules (exchange request reply) behind = refl
is_later rules (stray d bytes) behind = refl

-- the object with its end, and what is behind it
closed_object : (rules : List RuleValue) (numbering : Numbering) (number : ℕ) (item : ItemValue) (behind : List ℕ)
    → open_object rules numbering number item ++ end_then behind
    ≡ codes "{" ++ members_then (item_object rules numbering number item) (codes "}" ++ behind)
closed_object rules Hidden number item behind = ap (λ l. codes "{" ++ l) (item_is rules item behind)
closed_object rules Shown number item behind =
    ap (λ l. codes "{\"item\":" ++ l) (four_parts (decimal number) (codes ",") (codes "\"kind\":\"") (open_item rules item) (end_then behind))
    ∙ ap (λ l. codes "{\"item\":" ++ (decimal number ++ l)) (ap (λ l. codes "," ++ l) (item_is rules item behind)
    ∙ is_later rules item (codes "}" ++ behind))

pub object_is : (rules : List RuleValue) (numbering : Numbering) (number : ℕ) (item : ItemValue)
    → open_object rules numbering number item ++ codes "\"}" ≡ value_text (object (item_object rules numbering number item))
object_is rules numbering number item =
    closed_object rules numbering number item [] ∙ ap (λ l. codes "{" ++ l) (sym (members_are (item_object rules numbering number item) (codes "}")))

-- the line of the object
pub object_line_is : (rules : List RuleValue) (numbering : Numbering) (number : ℕ) (item : ItemValue)
    → open_object rules numbering number item ++ codes "\"}\n" ≡ object_line (item_object rules numbering number item)
object_line_is rules numbering number item = closed_object rules numbering number item (codes "\n")
    ∙ sym (line_is (item_object rules numbering number item))
