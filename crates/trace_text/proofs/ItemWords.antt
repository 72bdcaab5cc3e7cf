-- The words of an item, which are those of no other item.
use Rattle.std.proofs.Common.{◌≡◌, ◌⊎◌, inl, inr, ℕ, Bool, true, false, List, [], ◌∷◌, ◌++◌, arith, refl, ap, ap₂, sym, ◌∙◌, codes, Option, Some, None}
use Rattle.std.specs.Prelude.{⊤, if◌then◌else◌}
use Rattle.direction.specs.declared.Dir.{Dir}
use Rattle.direction.specs.declared.Dir.TheVariants.{Tester, Unit}
use Rattle.uds_exchange.specs.Meaning.{ItemValue, exchange, stray}
use Rattle.uds_message.specs.Message.{sid, is_negative_response, response_code, is_suppressing}
use Rattle.uds_echo.specs.Echo.{answers_other}
use Rattle.uds_rules.specs.Rule.{RuleValue}
use Rattle.trace_text.specs.Laws.{IsOfBytes, IsLeftBy}
use Rattle.trace_text.specs.RuledLaws.{IsLeft}
use Rattle.trace_text.specs.RuledText.{ruled_text}
use Rattle.trace_text.specs.ItemLines.{echo_member, outcome_members, item_members}
use Rattle.trace_text.specs.Json.{Members, nothing, member}
use Rattle.trace_text.specs.Json as json
use Rattle.trace_text.specs.Words.{direction_text, service_text, code_text}
use Rattle.trace_text.specs.proving.Spelling.{quotes_then, later_then, members_then}
use Rattle.trace_text.proofs.RuledWords.{ruled_same, ruled_word}
use Rattle.trace_text.proofs.TextWords.{IsWord, first_of, name_word, service_word, code_word}
use Rattle.trace_text.proofs.SpelledMembers.{words_of, marked_key, AreWorded}

-- ---- the members of an item by its words alone: the mark of an answer that is other than was asked is in its key

abbrev answer_key : Bool → List ℕ
answer_key true = marked_key
answer_key false = codes "answer"

abbrev worded_answer : List RuleValue → List ℕ → List ℕ → Members
worded_answer rules request reply =
    if is_negative_response reply
    then member (codes "outcome") (json.string (codes "negative")) (member (codes "code") (json.string (code_text (response_code reply)))
    (member (codes "answer") (json.string (ruled_text rules reply)) nothing))
    else member (codes "outcome") (json.string (codes "positive"))
    (member (answer_key (answers_other rules request reply)) (json.string (ruled_text rules reply)) nothing)

abbrev pub worded_outcome : List RuleValue → List ℕ → Option (List ℕ) → Members
worded_outcome rules request (Some reply) = worded_answer rules request reply
worded_outcome rules request None = outcome_members rules request None

abbrev pub worded_item : List RuleValue → ItemValue → Members
worded_item rules (exchange request reply) =
    member (codes "kind") (json.string (codes "exchange")) (member (codes "service") (json.string (service_text (sid request)))
    (member (codes "request") (json.string (ruled_text rules request)) (worded_outcome rules request reply)))
worded_item rules (stray d bytes) = item_members rules (stray d bytes)

answer_spelled : (negative is_other : Bool) (code bytes behind : List ℕ)
    → later_then (if negative then member (codes "outcome") (json.string (codes "negative"))
    (member (codes "code") (json.string code) (member (codes "answer") (json.string bytes) nothing))
    else member (codes "outcome") (json.string (codes "positive")) (echo_member is_other (member (codes "answer") (json.string bytes) nothing))) behind
    ≡ later_then (if negative then member (codes "outcome") (json.string (codes "negative"))
    (member (codes "code") (json.string code) (member (codes "answer") (json.string bytes) nothing))
    else member (codes "outcome") (json.string (codes "positive")) (member (answer_key is_other) (json.string bytes) nothing)) behind
answer_spelled true is_other code bytes behind = refl
answer_spelled false true code bytes behind = refl
answer_spelled false false code bytes behind = refl

outcome_spelled : (rules : List RuleValue) (request : List ℕ) (reply : Option (List ℕ)) (behind : List ℕ)
    → later_then (outcome_members rules request reply) behind ≡ later_then (worded_outcome rules request reply) behind
outcome_spelled rules request (Some reply) behind =
    answer_spelled (is_negative_response reply) (answers_other rules request reply) (code_text (response_code reply)) (ruled_text rules reply) behind
outcome_spelled rules request None behind = refl

-- they are spelled as the members of its object are
pub item_members_spelled : (rules : List RuleValue) (item : ItemValue) (behind : List ℕ)
    → members_then (item_members rules item) behind ≡ members_then (worded_item rules item) behind
item_members_spelled rules (exchange request reply) behind =
    ap (λ later. quotes_then (codes "kind") (codes ":" ++ quotes_then (codes "exchange") (codes "," ++ quotes_then (codes "service")
    (codes ":" ++ quotes_then (service_text (sid request)) (codes "," ++ quotes_then (codes "request")
    (codes ":" ++ quotes_then (ruled_text rules request) later))))))
    (outcome_spelled rules request reply behind)
item_members_spelled rules (stray d bytes) behind = refl

-- ---- keys and words

with_word : {K L W S M : Type 0} → K → W → S → M → (K ⊎ L) × (W × (S × M))
with_word key word told later = (inl key, (word, (told, later)))

positive_worded : (rules : List RuleValue) (is_other : Bool) (reply : List ℕ)
    → AreWorded (member (answer_key is_other) (json.string (ruled_text rules reply)) nothing)
positive_worded rules true reply = (inr refl, (ruled_word rules reply, (refl, tt)))
positive_worded rules false reply = with_word (name_word (codes "answer") refl) (ruled_word rules reply) refl tt

answer_worded : (rules : List RuleValue) (b : Bool) (request reply : List ℕ) → is_negative_response reply ≡ b
    → AreWorded (worded_answer rules request reply)
answer_worded rules true request reply so =
    rw so (with_word (name_word (codes "outcome") refl) (name_word (codes "negative") refl) refl
    (with_word (name_word (codes "code") refl) (code_word (response_code reply)) refl
    (with_word (name_word (codes "answer") refl) (ruled_word rules reply) refl tt)))
answer_worded rules false request reply so =
    rw so (with_word (name_word (codes "outcome") refl) (name_word (codes "positive") refl) refl
    (positive_worded rules (answers_other rules request reply) reply))

none_worded : (rules : List RuleValue) (b : Bool) (request : List ℕ) → is_suppressing request ≡ b → AreWorded (outcome_members rules request None)
none_worded rules true request so = rw so (with_word (name_word (codes "outcome") refl) (name_word (codes "silent") refl) refl tt)
none_worded rules false request so = rw so (with_word (name_word (codes "outcome") refl) (name_word (codes "unanswered") refl) refl tt)

outcome_worded : (rules : List RuleValue) (request : List ℕ) (reply : Option (List ℕ)) → AreWorded (worded_outcome rules request reply)
outcome_worded rules request (Some reply) = answer_worded rules (is_negative_response reply) request reply refl
outcome_worded rules request None = none_worded rules (is_suppressing request) request refl

side_word : (d : Dir) → IsWord (direction_text d)
side_word Tester = name_word (codes "tester") refl
side_word Unit = name_word (codes "unit") refl

pub item_worded : (rules : List RuleValue) (item : ItemValue) → AreWorded (worded_item rules item)
item_worded rules (exchange r a) =
    with_word (name_word (codes "kind") refl) (name_word (codes "exchange") refl) refl
    (with_word (name_word (codes "service") refl) (service_word (sid r)) refl
    (with_word (name_word (codes "request") refl) (ruled_word rules r) refl (outcome_worded rules r a)))
item_worded rules (stray d bytes) =
    with_word (name_word (codes "kind") refl) (name_word (codes "stray") refl) refl
    (with_word (name_word (codes "direction") refl) (side_word d) refl
    (with_word (name_word (codes "message") refl) (ruled_word rules bytes) refl tt))

abbrev first_word : List (List ℕ) → List ℕ
first_word [] = []
first_word (word ∷ words) = word

abbrev later_words : List (List ℕ) → List (List ℕ)
later_words [] = []
later_words (word ∷ words) = words

-- an answer is the last word of several, and no answer is one word
abbrev answer_words : List RuleValue → Bool → List ℕ → List (List ℕ)
answer_words rules true reply = code_text (response_code reply) ∷ ruled_text rules reply ∷ []
answer_words rules false reply = ruled_text rules reply ∷ []

answer_is : (rules : List RuleValue) (b : Bool) (request reply : List ℕ) → is_negative_response reply ≡ b
    → later_words (words_of (worded_answer rules request reply)) ≡ answer_words rules b reply
answer_is rules true request reply so = rw so refl
answer_is rules false request reply so = rw so refl

answer_same : (rules : List RuleValue) (p q : Bool) (one other : List ℕ) → IsLeft rules one → IsLeft rules other
    → answer_words rules p one ≡ answer_words rules q other → one ≡ other
answer_same rules true true one other left kept is = ruled_same rules one other left kept (ap (λ words. first_word (later_words words)) is)
answer_same rules false false one other left kept is = ruled_same rules one other left kept (ap first_word is)
answer_same rules true false one other left kept is = absurd (cc (ap later_words is))
answer_same rules false true one other left kept is = absurd (cc (ap later_words is))

some_answer : (rules : List RuleValue) (b : Bool) (reply : List ℕ) → answer_words rules b reply ≡ [] → ⊥
some_answer rules true reply is = cc is
some_answer rules false reply is = cc is

abbrev HasLeft : List RuleValue → Option (List ℕ) → Type 0
HasLeft rules None = ⊤
HasLeft rules (Some reply) = IsLeft rules reply

outcome_same : (rules : List RuleValue) (r s : List ℕ) (a b : Option (List ℕ)) → HasLeft rules a → HasLeft rules b
    → words_of (worded_outcome rules r a) ≡ words_of (worded_outcome rules s b) → a ≡ b
outcome_same rules r s None None left kept is = refl
outcome_same rules r s (Some a) (Some b) left kept is =
    ap Some (answer_same rules (is_negative_response a) (is_negative_response b) a b left kept
    (sym (answer_is rules _ r a refl) ∙ ap later_words is ∙ answer_is rules _ s b refl))
outcome_same rules r s (Some a) None left kept is = absurd (some_answer rules (is_negative_response a) a
    (sym (answer_is rules _ r a refl) ∙ ap later_words is))
outcome_same rules r s None (Some b) left kept is = absurd (some_answer rules (is_negative_response b) b
    (sym (answer_is rules _ s b refl) ∙ ap later_words (sym is)))

side_same : (d e : Dir) → direction_text d ≡ direction_text e → d ≡ e
side_same Tester Tester is = refl
side_same Unit Unit is = refl
side_same Tester Unit is =
    let differ : 116 ≡ 117 = ap first_of is in
    absurd (omega (arith, differ))
side_same Unit Tester is =
    let differ : 117 ≡ 116 = ap first_of is in
    absurd (omega (arith, differ))

both_left : (rules : List RuleValue) (r : List ℕ) (a : Option (List ℕ)) → IsOfBytes (exchange r a) → IsLeftBy rules (exchange r a)
    → IsLeft rules r × HasLeft rules a
both_left rules r None small left = ((small.0, left.0), tt)
both_left rules r (Some a) small left = ((small.0, left.0), (small.1.0, left.1.0))

-- so they are those of one item
pub item_same : (rules : List RuleValue) (one other : ItemValue) → IsOfBytes one → IsOfBytes other → IsLeftBy rules one → IsLeftBy rules other
    → words_of (worded_item rules one) ≡ words_of (worded_item rules other) → one ≡ other
item_same rules (exchange r a) (exchange s b) small few left kept is =
    let own = both_left rules r a small left in
    let its = both_left rules s b few kept in
    let request = ruled_same rules r s own.0 its.0 (ap (λ words. first_word (later_words (later_words words))) is) in
    ap₂ exchange request (outcome_same rules r s a b own.1 its.1 (ap (λ words. later_words (later_words (later_words words))) is))
item_same rules (stray d one) (stray e other) small few left kept is =
    ap₂ stray (side_same d e (ap (λ words. first_word (later_words words)) is))
    (ruled_same rules one other (small.0, left.0) (few.0, kept.0) (ap (λ words. first_word (later_words (later_words words))) is))
item_same rules (exchange r a) (stray e other) small few left kept is =
    let differ : 101 ≡ 115 = ap (λ words. first_of (first_word words)) is in
    absurd (omega (arith, differ))
item_same rules (stray d one) (exchange s b) small few left kept is =
    let differ : 115 ≡ 101 = ap (λ words. first_of (first_word words)) is in
    absurd (omega (arith, differ))
