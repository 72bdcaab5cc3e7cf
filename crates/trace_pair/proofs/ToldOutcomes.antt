-- What is told of an exchange without an answer.
use Rattle.std.proofs.Common.{◌≡◌, ◌+◌, ℕ, Bool, true, false, true≢false, List, [], ◌++◌, length, Option, Some, None, ap, arith, nat_eq, refl, subst, sym, ◌∙◌}
use Rattle.std.proofs.lemmas.Bool.{eq-eqb}
use Rattle.std.proofs.lemmas.List.{append_cancel_left, length-append}
use Rattle.std.specs.Prelude.{codes, get_or, option_map, if◌then◌else◌}
use Rattle.direction.specs.declared.Dir.{Dir}
use Rattle.uds_message.specs.Message.{is_negative_response, is_suppressing, response_code}
use Rattle.uds_rules.specs.Rule.{RuleValue}
use Rattle.uds_difference.specs.declared.row.Row.{Row}
use Rattle.uds_difference.specs.declared.row.Row.TheVariants.{Same, Changed, OnlyLeft, OnlyRight}
use Rattle.uds_exchange.specs.Meaning.{ItemValue, exchange, stray}
use Rattle.trace_report.specs.Items.{PlacedItemValue, RowMessageValue, item_value}
use Rattle.trace_pair.specs.PartedRoles.{parted_role_words}
use Rattle.trace_report.specs.Roles.{is_request_role}
use Rattle.trace_report.specs.declared.roles.MessageRole.{MessageRole}
use Rattle.trace_report.specs.declared.roles.MessageRole.TheVariants as role
use Rattle.trace_pair.specs.ItemRows.{answer_data, message_of_both, other_outcomes, outcome_by, outcome_line, same_outcomes, told, told_if}
use Rattle.trace_pair.specs.ItemWords.{came_of, outcome_mark, outcome_note, outcome_words, same_outcome}
use Rattle.trace_pair.specs.OutcomeLaws.{HasNone, UnansweredHasNone, none_outcome, none_told, told_whole}
use Rattle.pair_words.specs.Logs.{letter_mark}
use Rattle.trace_pair.specs.ToldItems.{no_answer_text, told_answer, told_item, told_message}
use Rattle.pair_words.specs.declared.log.PairLog.{PairLog}
use Rattle.pair_words.specs.declared.log.PairLog.TheVariants.{A, B}
use Rattle.trace_pair.specs.declared.outcome.Outcome.{Outcome}
use Rattle.trace_pair.specs.declared.outcome.Outcome.TheVariants.{Positive, Refused, Silent, Unanswered}
use Rattle.trace_pair.proofs.DifferingOutcomes.{answered, both-none, left-none, right-none}

-- ---- what came of a request

never_none : (silent negative : Bool) (code : ℕ) → answered negative code ≡ none_outcome silent → ⊥
never_none true true code is = cc
never_none true false code is = cc
never_none false true code is = cc
never_none false false code is = cc

-- an outcome without an answer says whether the request asks for none
silence_of : (one other : Bool) → none_outcome one ≡ none_outcome other → one ≡ other
silence_of true true is = refl
silence_of true false is = absurd cc
silence_of false true is = absurd cc
silence_of false false is = refl

came-none : (request : List ℕ) (answer : Option (List ℕ)) (silent : Bool) → came_of request answer ≡ none_outcome silent → HasNone silent (exchange request answer)
came-none request None silent is = (refl, silence_of (is_suppressing request) silent is)
came-none request (Some reply) silent is = absurd (never_none silent (is_negative_response reply) (response_code reply) is)

came-by : (request : List ℕ) (answer : Option RowMessageValue) (silent : Bool) → outcome_by request answer ≡ none_outcome silent → (answer ≡ None) × (is_suppressing request ≡ silent)
came-by request None silent is = (refl, silence_of (is_suppressing request) silent is)
came-by request (Some reply) silent is = absurd (never_none silent (is_negative_response reply.bytes) (response_code reply.bytes) is)

-- texts with other letters at a place are not the same
never_at : (place : ℕ) {one other : List ℕ} → one ≡ other → nat_eq (get_or one place 0) (get_or other place 0) ≡ false → ⊥
never_at place {one = one} {other = other} is apart =
    let here = get_or one place 0 in
    true≢false (sym (eq-eqb here here refl) ∙ ap (λ (text : List ℕ). nat_eq here (get_or text place 0)) is ∙ apart)

-- ---- in a line of the list

-- no other outcome has its words
words_of : (outcome : Outcome) (silent : Bool) → outcome_words outcome ≡ outcome_words (none_outcome silent) → outcome ≡ none_outcome silent
words_of Positive true is = absurd (never_at 0 is refl)
words_of (Refused code) true is = absurd (never_at 0 is refl)
words_of Silent true is = refl
words_of Unanswered true is = absurd (never_at 0 is refl)
words_of Positive false is = absurd (never_at 0 is refl)
words_of (Refused code) false is = absurd (never_at 0 is refl)
words_of Silent false is = absurd (never_at 0 is refl)
words_of Unanswered false is = refl

line-none : (item : ItemValue) (silent : Bool) → outcome_note item ≡ codes ": " ++ outcome_words (none_outcome silent) → HasNone silent item
line-none (exchange request answer) silent is =
    came-none request answer silent
    (words_of (came_of request answer) silent (append_cancel_left (codes ": ") (outcome_words (came_of request answer)) (outcome_words (none_outcome silent)) is))
line-none (stray side bytes) true is = absurd cc
line-none (stray side bytes) false is = absurd cc

-- ---- in the line of a log

-- no other outcome has its mark
marks_of : (outcome : Outcome) (silent : Bool) (shown : List ℕ)
    → outcome_mark outcome ++ codes "</mark>" ++ shown ++ codes "</div>" ≡ outcome_mark (none_outcome silent) ++ codes "</mark></div>" → outcome ≡ none_outcome silent
marks_of Positive true shown is = absurd (never_at 0 is refl)
marks_of (Refused code) true shown is = absurd (never_at 0 is refl)
marks_of Silent true shown is = refl
marks_of Unanswered true shown is = absurd (never_at 0 is refl)
marks_of Positive false shown is = absurd (never_at 0 is refl)
marks_of (Refused code) false shown is = absurd (never_at 1 is refl)
marks_of Silent false shown is = absurd (never_at 0 is refl)
marks_of Unanswered false shown is = refl

mark-none : (rules : List RuleValue) (log : PairLog) (request : List ℕ) (answer : Option RowMessageValue) (silent : Bool)
    → outcome_line rules log request answer ≡ codes "<div>" ++ letter_mark log ++ codes "&#8594; <mark>" ++ outcome_mark (none_outcome silent) ++ codes "</mark></div>"
    → (answer ≡ None) × (is_suppressing request ≡ silent)
mark-none rules A request answer silent is =
    came-by request answer silent (marks_of (outcome_by request answer) silent (answer_data rules answer)
    (append_cancel_left (codes "<div>" ++ letter_mark A ++ codes "&#8594; <mark>") (outcome_mark (outcome_by request answer) ++ codes "</mark>" ++ answer_data rules answer ++ codes "</div>")
    (outcome_mark (none_outcome silent) ++ codes "</mark></div>") is))
mark-none rules B request answer silent is =
    came-by request answer silent (marks_of (outcome_by request answer) silent (answer_data rules answer)
    (append_cancel_left (codes "<div>" ++ letter_mark B ++ codes "&#8594; <mark>") (outcome_mark (outcome_by request answer) ++ codes "</mark>" ++ answer_data rules answer ++ codes "</div>")
    (outcome_mark (none_outcome silent) ++ codes "</mark></div>") is))

-- ---- in a row

-- the words of a request are too long for what stands in place of an answer
too_long : (name shown : List ℕ) → (codes "<b>" ++ name ++ codes "</b> <i>request</i> ") ++ shown ≡ codes "<b>silent</b>" → ⊥
too_long name shown is =
    let all : length ((codes "<b>" ++ name ++ codes "</b> <i>request</i> ") ++ shown) ≡ 13 = ap length is in
    let whole : length ((codes "<b>" ++ name ++ codes "</b> <i>request</i> ") ++ shown) ≡ length (codes "<b>" ++ name ++ codes "</b> <i>request</i> ") + length shown = length-append (codes "<b>" ++ name ++ codes "</b> <i>request</i> ") shown in
    let front : length (codes "<b>" ++ name ++ codes "</b> <i>request</i> ") ≡ length (codes "<b>" ++ name) + 20 = length-append (codes "<b>" ++ name) (codes "</b> <i>request</i> ") in
    omega (arith, all, whole, front)

-- no message is told so
told-else : (is : MessageRole) (d : Dir) (bytes shown : List ℕ) (silent : Bool) → parted_role_words is d bytes ++ shown ≡ no_answer_text silent → ⊥
told-else role.Request d bytes shown true same = too_long _ shown same
told-else (role.Positive asked) d bytes shown true same = never_at 3 same refl
told-else (role.Negative asked) d bytes shown true same = never_at 3 same refl
told-else (role.Pending asked) d bytes shown true same = never_at 3 same refl
told-else role.KeepAlive d bytes shown true same = never_at 3 same refl
told-else role.Stray d bytes shown true same = never_at 4 same refl
told-else role.Request d bytes shown false same = never_at 2 same refl
told-else (role.Positive asked) d bytes shown false same = never_at 2 same refl
told-else (role.Negative asked) d bytes shown false same = never_at 2 same refl
told-else (role.Pending asked) d bytes shown false same = never_at 2 same refl
told-else role.KeepAlive d bytes shown false same = never_at 2 same refl
told-else role.Stray d bytes shown false same = never_at 2 same refl

text_of : (one other : Bool) → no_answer_text one ≡ no_answer_text other → one ≡ other
text_of true true is = refl
text_of true false is = absurd (never_at 2 is refl)
text_of false true is = absurd (never_at 2 is refl)
text_of false false is = refl

answer-none : (rules : List RuleValue) (request : List ℕ) (answer : Option RowMessageValue) (silent : Bool) → told_answer rules request answer ≡ no_answer_text silent → (answer ≡ None) × (is_suppressing request ≡ silent)
answer-none rules request None silent is = (refl, text_of (is_suppressing request) silent is)
answer-none rules request (Some reply) silent is = absurd (told-else reply.role reply.dir reply.bytes _ silent is)

-- what an item is that begins with a message, which is a request or not
abbrev value_by : Bool → Dir → List ℕ → Option RowMessageValue → ItemValue
value_by asks side bytes answer = if asks then exchange bytes (option_map (λ (reply : RowMessageValue). reply.bytes) answer) else stray side bytes

value-none : (asks : Bool) (side : Dir) (bytes : List ℕ) (answer : Option RowMessageValue) (silent : Bool) → asks ≡ true → answer ≡ None → is_suppressing bytes ≡ silent
    → HasNone silent (value_by asks side bytes answer)
value-none true side bytes answer silent is none silence = (ap (option_map (λ (reply : RowMessageValue). reply.bytes)) none, silence)
value-none false side bytes answer silent is none silence = absurd cc

behind-none : (rules : List RuleValue) (asks : Bool) (side : Dir) (bytes : List ℕ) (answer : Option RowMessageValue) (silent : Bool)
    → (if asks then codes " &#8594; " ++ told_answer rules bytes answer else []) ≡ none_told silent → HasNone silent (value_by asks side bytes answer)
behind-none rules true side bytes answer silent is =
    let none = answer-none rules bytes answer silent (append_cancel_left (codes " &#8594; ") (told_answer rules bytes answer) (no_answer_text silent) is) in
    value-none true side bytes answer silent refl none.0 none.1
behind-none rules false side bytes answer silent is = absurd cc

item-none : (rules : List RuleValue) (item : PlacedItemValue) (silent : Bool) → told_item rules item ≡ told_message rules item.begin ++ none_told silent → HasNone silent (item_value item)
item-none rules item silent is = behind-none rules (is_request_role item.begin.role) item.begin.dir item.begin.bytes item.answer silent (append_cancel_left (told_message rules item.begin) _ _ is)

if-none : (rules : List RuleValue) (there : Option PlacedItemValue) (item : PlacedItemValue) (silent : Bool) → there ≡ Some item
    → told_if rules there ≡ told_message rules item.begin ++ none_told silent → HasNone silent (item_value item)
if-none rules there item silent is text =
    item-none rules item silent (subst (λ (o : Option PlacedItemValue). told_if rules o ≡ told_message rules item.begin ++ none_told silent) is text)

row-none : (rules : List RuleValue) (kind : Row) (one other : Option PlacedItemValue) (item : PlacedItemValue) (silent : Bool) → told_whole kind one other ≡ Some item
    → told rules kind one other ≡ told_message rules item.begin ++ none_told silent → HasNone silent (item_value item)
row-none rules Same one other item silent is text = if-none rules other item silent is text
row-none rules Changed one other item silent is text = absurd cc
row-none rules OnlyLeft one other item silent is text = if-none rules one item silent is text
row-none rules OnlyRight one other item silent is text = if-none rules other item silent is text

-- ---- in a row of two items that changed

unlike : (silent negative : Bool) (code : ℕ) → same_outcome (none_outcome silent) (answered negative code) ≡ true → ⊥
unlike true true code is = cc
unlike true false code is = cc
unlike false true code is = cc
unlike false false code is = cc

like : (one other : Bool) → same_outcome (none_outcome one) (none_outcome other) ≡ true → other ≡ one
like true true is = refl
like true false is = absurd cc
like false true is = absurd cc
like false false is = refl

-- two answers are not there, and two requests ask for none, or both for one
pub record NoneInBoth (request other : List ℕ) (answer reply : Option RowMessageValue) (silent : Bool) : Type 0 where
  pub answer_is : answer ≡ None
  pub reply_is : reply ≡ None
  pub request_is : is_suppressing request ≡ silent
  pub other_is : is_suppressing other ≡ silent

same-none : (rules : List RuleValue) (request other : List ℕ) (answer reply : Option RowMessageValue) (silent : Bool) → same_outcome (outcome_by request answer) (outcome_by other reply) ≡ true
    → same_outcomes rules request answer reply ≡ no_answer_text silent → NoneInBoth request other answer reply silent
same-none rules request other (Some one) (Some two) silent alike is = absurd (told-else one.role one.dir one.bytes _ silent is)
same-none rules request other (Some one) None silent alike is = absurd (told-else one.role one.dir one.bytes _ silent is)
same-none rules request other None (Some two) silent alike is = absurd (unlike (is_suppressing request) (is_negative_response two.bytes) (response_code two.bytes) alike)
same-none rules request other None None silent alike is =
    let silence = text_of (is_suppressing request) silent is in
    record { answer_is = refl; reply_is = refl; request_is = silence; other_is = like (is_suppressing request) (is_suppressing other) alike ∙ silence }

-- what stands behind the requests of two items, of which the first one is a request
pair-none : (rules : List RuleValue) (asks same : Bool) (request other : List ℕ) (answer reply : Option RowMessageValue) (silent : Bool) → same_outcome (outcome_by request answer) (outcome_by other reply) ≡ same
    → (if asks then (if same then codes " &#8594; " ++ same_outcomes rules request answer reply else other_outcomes rules request answer other reply) else []) ≡ none_told silent
    → (asks ≡ true) × NoneInBoth request other answer reply silent
pair-none rules true true request other answer reply silent alike is =
    (refl, same-none rules request other answer reply silent alike (append_cancel_left (codes " &#8594; ") (same_outcomes rules request answer reply) (no_answer_text silent) is))
pair-none rules true false request other answer reply silent alike is = absurd (never_at 0 is refl)
pair-none rules false same request other answer reply silent alike is = absurd cc

changed-none : (rules : List RuleValue) (one other : PlacedItemValue) (silent : Bool) → is_request_role other.begin.role ≡ true
    → told rules Changed (Some one) (Some other) ≡ message_of_both rules one.begin other.begin ++ none_told silent → HasNone silent (item_value one) × HasNone silent (item_value other)
changed-none rules one other silent asks is =
    let both = pair-none rules (is_request_role one.begin.role) _ one.begin.bytes other.begin.bytes one.answer other.answer silent refl (append_cancel_left (message_of_both rules one.begin other.begin) _ _ is) in (
      value-none (is_request_role one.begin.role) one.begin.dir one.begin.bytes one.answer silent both.0 both.1.answer_is both.1.request_is,
      value-none (is_request_role other.begin.role) other.begin.dir other.begin.bytes other.answer silent asks both.1.reply_is both.1.other_is,
    )

pub unanswered_has_none : UnansweredHasNone
unanswered_has_none = record {
  came = came-none;
  in_line = line-none;
  in_row = row-none;
  where_same = λ rules one other silent same is. let none = item-none rules other silent is in (subst (HasNone silent) (sym same) none, none);
  where_changed = changed-none;
  in_mark = mark-none;
  of_left = left-none;
  of_right = right-none;
  of_both = both-none;
}
