-- Equal texts are those of equal lists of items: in each notation, with numbers and without. In both an item is told by
-- the same words, and an object of JSON has a key before each.
use Rattle.std.proofs.Common.{◌≡◌, ℕ, ◌+◌, Bool, true, false, List, [], ◌∷◌, ◌++◌, refl, ap, ap₂, sym, ◌∙◌, append_assoc, codes, unwrap_or, Option, Some, None}
use Rattle.std.specs.Fmt.{decimal}
use Rattle.std.specs.List.{AllByRecursion}
use Rattle.uds_exchange.specs.Meaning.{ItemValue, exchange, stray}
use Rattle.uds_message.specs.Message.{sid, is_negative_response, response_code, is_suppressing}
use Rattle.trace_text.specs.declared.item_style.ItemStyle.{ItemStyle}
use Rattle.trace_text.specs.declared.item_style.Numbering.{Numbering}
use Rattle.trace_text.specs.declared.item_style.Numbering.TheVariants.{Shown, Hidden}
use Rattle.trace_text.specs.declared.notation.Notation.{Notation}
use Rattle.trace_text.specs.declared.notation.Notation.TheVariants.{Text, Json}
use Rattle.trace_text.specs.Json.{object, Members, nothing, member, value_text}
use Rattle.uds_rules.specs.Rule.{RuleValue}
use Rattle.trace_text.specs.Laws.{IsOfBytes, IsLeftBy, EqualListsHaveEqualTexts}
use Rattle.trace_text.specs.RuledText.{ruled_text}
use Rattle.trace_text.specs.ItemLines.{outcome_text, item_text, item_members, item_object, number_text, list_text, list_text_from}
use Rattle.trace_text.specs.proving.OpenItems.{front_of_object}
use Rattle.trace_text.specs.proving.Spelling.{later_then, members_then, value_then}
use Rattle.trace_text.specs.Words.{direction_text, service_text, code_text}
use Rattle.trace_text.proofs.JsonTexts.{value_is}
use Rattle.trace_text.proofs.JoinedTexts.{three_parts, four_parts, six_parts}
use Rattle.trace_text.proofs.TextWords.{strip}
use Rattle.trace_text.proofs.SpelledMembers.{word_of, AreWorded, spelled, words_same}
use Rattle.trace_text.proofs.ItemWords.{worded_outcome, worded_item, item_members_spelled, item_worded, item_same}

abbrev behind : List ℕ → List ℕ
behind rest = codes "}" ++ (codes "\n" ++ rest)

members_spelled : (n : ℕ) (members : Members) (rest : List ℕ) → AreWorded members
    → codes "\"" ++ later_then members (behind rest) ≡ spelled Json n members rest
members_spelled n nothing rest worded = refl
members_spelled n (member key value later) rest worded =
    rw worded.1.1.0 (ap (λ l. codes "\",\"" ++ l)
    (ap (λ l. key ++ (codes "\":\"" ++ (word_of value ++ l))) (members_spelled (n + 1) later rest worded.1.1.1)
    ∙ sym (append_assoc key (codes "\":\"") _)))

outcome_spelled : (rules : List RuleValue) (b c : Bool) (r : List ℕ) (a : Option (List ℕ)) (rest : List ℕ)
    → is_negative_response (unwrap_or a []) ≡ b → is_suppressing r ≡ c
    → codes " -> " ++ (outcome_text rules r a ++ (codes "\n" ++ rest)) ≡ spelled Text 3 (worded_outcome rules r a) rest
outcome_spelled rules true c r (Some a) rest so how =
    rw so (ap (λ l. codes " -> " ++ l) (four_parts (codes "negative ") (code_text (response_code a)) (codes " ") (ruled_text rules a)
    (codes "\n" ++ rest)))
outcome_spelled rules false c r (Some a) rest so how = rw so refl
outcome_spelled rules b true r None rest so how = rw how refl
outcome_spelled rules b false r None rest so how = rw how refl

abbrev item_then : List RuleValue → Notation → ItemValue → List ℕ → List ℕ
item_then rules Text item rest = item_text rules item ++ (codes "\n" ++ rest)
item_then rules Json item rest = members_then (item_members rules item) (behind rest)

-- what the first member's opening has before its line
abbrev lead : Notation → List ℕ
lead Text = codes " "
lead Json = codes "\","

item_spelled : (rules : List RuleValue) (notation : Notation) (item : ItemValue) (rest : List ℕ)
    → lead notation ++ item_then rules notation item rest ≡ spelled notation 0 (worded_item rules item) rest
item_spelled rules Text (exchange r a) rest =
    ap (λ l. codes " " ++ l) (six_parts (codes "exchange ") (service_text (sid r)) (codes " ") (ruled_text rules r) (codes " -> ")
    (outcome_text rules r a) (codes "\n" ++ rest))
    ∙ ap (λ l. codes " exchange " ++ (service_text (sid r) ++ (codes " " ++ (ruled_text rules r ++ l))))
    (outcome_spelled rules _ _ r a rest refl refl)
item_spelled rules Text (stray d bytes) rest = ap (λ l. codes " " ++ l)
    (four_parts (codes "stray ") (direction_text d) (codes " ") (ruled_text rules bytes) (codes "\n" ++ rest))
item_spelled rules Json (exchange r a) rest =
    ap (λ l. codes "\"," ++ l) (item_members_spelled rules (exchange r a) (behind rest))
    ∙ members_spelled 0 (worded_item rules (exchange r a)) rest (item_worded rules (exchange r a))
item_spelled rules Json (stray d bytes) rest = members_spelled 0 (worded_item rules (stray d bytes)) rest (item_worded rules (stray d bytes))

abbrev styled : Notation → Numbering → ItemStyle
styled notation numbering = record { numbering = numbering; notation = notation }

-- what stands before the words of an item
abbrev front_of : Notation → Numbering → ℕ → List ℕ
front_of Text numbering number = number_text numbering number
front_of Json numbering number = front_of_object numbering number

object_then : (rules : List RuleValue) (numbering : Numbering) (number : ℕ) (item : ItemValue) (rest : List ℕ)
    → value_then (object (item_object rules numbering number item)) (codes "\n" ++ rest)
    ≡ front_of_object numbering number ++ members_then (item_members rules item) (behind rest)
object_then rules Hidden number item rest = refl
object_then rules Shown number (exchange r a) rest = sym (three_parts (codes "{\"item\":") (decimal number) (codes ",") _)
object_then rules Shown number (stray d bytes) rest = sym (three_parts (codes "{\"item\":") (decimal number) (codes ",") _)

line_then : (rules : List RuleValue) (notation : Notation) (numbering : Numbering) (number : ℕ) (item : ItemValue) (later : List ItemValue)
    → list_text_from rules (styled notation numbering) number (item ∷ later)
    ≡ front_of notation numbering number ++ item_then rules notation item (list_text_from rules (styled notation numbering) (number + 1) later)
line_then rules Text numbering number item later = three_parts (number_text numbering number) (item_text rules item) (codes "\n") _
line_then rules Json numbering number item later =
    let rest = list_text_from rules (styled Json numbering) (number + 1) later in
    append_assoc (value_text (object (item_object rules numbering number item))) (codes "\n") rest
    ∙ value_is (object (item_object rules numbering number item)) (codes "\n" ++ rest) ∙ object_then rules numbering number item rest

-- a line is some text
some_line : (rules : List RuleValue) (front : List ℕ) (notation : Notation) (item : ItemValue) (rest : List ℕ)
    → [] ≡ front ++ item_then rules notation item rest → ⊥
some_line rules (b ∷ front) notation item rest is = cc is
some_line rules [] Text (exchange r a) rest is = cc is
some_line rules [] Text (stray d bytes) rest is = cc is
some_line rules [] Json (exchange r a) rest is = cc is
some_line rules [] Json (stray d bytes) rest is = cc is

lists_same : (rules : List RuleValue) (notation : Notation) (numbering : Numbering) (number : ℕ) (xs ys : List ItemValue)
    → AllByRecursion IsOfBytes xs → AllByRecursion IsOfBytes ys
    → AllByRecursion (IsLeftBy rules) xs → AllByRecursion (IsLeftBy rules) ys
    → list_text_from rules (styled notation numbering) number xs ≡ list_text_from rules (styled notation numbering) number ys → xs ≡ ys
lists_same rules notation numbering number [] [] small few left kept is = refl
lists_same rules notation numbering number [] (y ∷ ys) small few left kept is = absurd
    (some_line rules _ notation y _ (is ∙ line_then rules notation numbering number y ys))
lists_same rules notation numbering number (x ∷ xs) [] small few left kept is = absurd
    (some_line rules _ notation x _ (sym is ∙ line_then rules notation numbering number x xs))
lists_same rules notation numbering number (x ∷ xs) (y ∷ ys) small few left kept is =
    let both = strip (front_of notation numbering number) _ _
    (sym (line_then rules notation numbering number x xs) ∙ is ∙ line_then rules notation numbering number y ys) in
    let parts = words_same notation 0 (worded_item rules x) (worded_item rules y) _ _ (item_worded rules x) (item_worded rules y)
    (sym (item_spelled rules notation x _) ∙ ap (λ l. lead notation ++ l) both ∙ item_spelled rules notation y _) in
    ap₂ (λ z zs. z ∷ zs) (item_same rules x y small.0 few.0 left.0 kept.0 parts.0)
    (lists_same rules notation numbering (number + 1) xs ys small.1 few.1 left.1 kept.1 parts.1)

pub equal_lists_have_equal_texts : EqualListsHaveEqualTexts
equal_lists_have_equal_texts rules style xs ys small few left kept =
    (ap (list_text rules style), lists_same rules style.notation style.numbering 1 xs ys small few left kept)
