-- What holds of the texts of lists of items.
use Rattle.std.specs.Prelude.{◌≡◌, ◌↔◌, ℕ, true, List, ◌++◌, codes, Some, None}
use Rattle.std.specs.List.{AllByRecursion}
use Rattle.can_log.specs.Frame.{AreBytes}
use Rattle.direction.specs.Dir.{Message}
use Rattle.uds_message.specs.Message.{is_suppressing}
use Rattle.uds_rules.specs.Rule.{RuleValue, made_of}
use Rattle.uds_exchange.specs.Laws.{role_of_step}
use Rattle.uds_exchange.specs.Meaning.{ItemValue, messages_of}
use Rattle.uds_exchange.specs.declared.step.Step.{Step}
use Rattle.uds_exchange.specs.declared.step.Step.TheVariants as becomes
use Rattle.trace_text.specs.Json.{nothing, member}
use Rattle.trace_text.specs.Json as json
use Rattle.trace_text.specs.declared.item_style.ItemStyle.{ItemStyle}
use Rattle.trace_text.specs.declared.item_style.Numbering.TheVariants.{Hidden}
use Rattle.trace_text.specs.declared.notation.Notation.{Notation}
use Rattle.trace_text.specs.ItemLines.{outcome_text, outcome_members, list_text}
use Rattle.trace_text.specs.Words.{role_text}

-- Without numbers, the list of some items and others is the list of the ones and then that of the others.
abbrev pub UnnumberedListsJoin : Type 0
UnnumberedListsJoin = (rules : List RuleValue) (notation : Notation) (xs ys : List ItemValue)
    → let style : ItemStyle = record { numbering = Hidden; notation = notation } in
    list_text rules style (xs ++ ys) ≡ list_text rules style xs ++ list_text rules style ys

-- the bytes of the messages of an item are bytes
abbrev pub IsOfBytes : ItemValue → Type 0
IsOfBytes item = AllByRecursion (λ (sent : Message). AreBytes sent.1) (messages_of item)

-- and rules leave these messages as they are
abbrev pub IsLeftBy : List RuleValue → ItemValue → Type 0
IsLeftBy rules item = AllByRecursion (λ (sent : Message). made_of rules sent.1 ≡ Some sent.1) (messages_of item)

-- equal lists of items that rules leave have equal texts, and only they: in each notation, with numbers and without
abbrev pub EqualListsHaveEqualTexts : Type 0
EqualListsHaveEqualTexts = (rules : List RuleValue) (style : ItemStyle) (xs ys : List ItemValue)
    → AllByRecursion IsOfBytes xs → AllByRecursion IsOfBytes ys → AllByRecursion (IsLeftBy rules) xs → AllByRecursion (IsLeftBy rules) ys
    → (xs ≡ ys) ↔ (list_text rules style xs ≡ list_text rules style ys)

-- a request without an answer is told as silent exactly where it asked for no positive response
abbrev pub SilenceWasAskedFor : Type 0
SilenceWasAskedFor = (rules : List RuleValue) (request : List ℕ)
    → (outcome_text rules request None ≡ codes "silent") ↔ (is_suppressing request ≡ true)

-- as JSON too
abbrev pub SilenceWasAskedForInJson : Type 0
SilenceWasAskedForInJson = (rules : List RuleValue) (request : List ℕ)
    → (outcome_members rules request None ≡ member (codes "outcome") (json.string (codes "silent")) nothing) ↔ (is_suppressing request ≡ true)

-- two steps have one text exactly where they tell one role
abbrev pub RolesHaveTexts : Type 0
RolesHaveTexts = (one other : Step) → (role_text one ≡ role_text other) ↔ (role_of_step one ≡ role_of_step other)

-- the text of an answer is its name
abbrev pub AnswerIsNamed : Type 0
AnswerIsNamed = role_text becomes.Answer ≡ codes "answer"
