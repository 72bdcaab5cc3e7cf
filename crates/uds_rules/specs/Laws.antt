-- What holds of messages under rules, and of the texts of rules.
use Rattle.std.specs.Prelude.{◌≡◌, ◌≤◌, ℕ, ◌+◌, Bool, true, false, List, [], ◌++◌, length, get_or, nat_le, nat_eq, ◌&&◌, Option, Some, None, slice_get, option_map, if◌then◌else◌}
use Rattle.std.specs.List.{AllByRecursion, list_all}
use Rattle.std.specs.Cmp.Lexicographic.{pointwise}
use Rattle.direction.specs.Dir.{Message}
use Rattle.hex.specs.Hex.{IsBytes, encode_upper}
use Rattle.uds_message.specs.Message.{sid, tester_kind, answer_to, is_negative_response, is_suppressing}
use Rattle.uds_rules.specs.Mask.{MaskValue, masked}
use Rattle.uds_rules.specs.Rule.{RuleValue, begins_with, speaks_of, made_by, made_of}
use Rattle.uds_rules.specs.Legal.{AreRules, AreApart, are_apart}
use Rattle.uds_rules.specs.Under.{under, left_out}
use Rattle.uds_rules.specs.Pattern.{pattern_text, mask_text, drop_rule, mask_rule, dropping, masking_parts, few_bytes, few_places, mask_in}

-- what becomes of messages doesn't depend on those beside them
abbrev pub UnderGoesOn : Type 0
UnderGoesOn = (rules : List RuleValue) (M N : List Message) → under rules (M ++ N) ≡ under rules M ++ under rules N

-- and neither does it how many are left out
abbrev pub LeftOutGoesOn : Type 0
LeftOutGoesOn = (rules : List RuleValue) (M N : List Message) → left_out rules (M ++ N) ≡ left_out rules M + left_out rules N

-- each message is one of those that are left, or is left out
abbrev pub LeftOutAreTheRest : Type 0
LeftOutAreTheRest = (rules : List RuleValue) (M : List Message) → length (under rules M) + left_out rules M ≡ length M

-- without rules nothing changes
abbrev pub NoRulesKeepAll : Type 0
NoRulesKeepAll = (M : List Message) → under [] M ≡ M

-- rules applied twice are rules applied once
abbrev pub UnderTwice : Type 0
UnderTwice = (rules : List RuleValue) → AreApart rules → (M : List Message) → under rules (under rules M) ≡ under rules M

-- The order of rules tells nothing: whichever speaks of a message, what is made of the message is what that rule makes.
abbrev pub RuleSpeaksAlone : Type 0
RuleSpeaksAlone = (rules : List RuleValue) → AreApart rules → (message : List ℕ)
    → AllByRecursion (λ rule. speaks_of rule message ≡ true → made_of rules message ≡ made_by rule.deed rule.prefix message) rules

-- no message begins with two prefixes that are apart
abbrev pub ApartSharesNoMessage : Type 0
ApartSharesNoMessage = (one other message : List ℕ) → are_apart one other ≡ true → begins_with one message ≡ true → begins_with other message ≡ false

-- and some message begins with two that are not
abbrev pub ClashSharesMessage : Type 0
ClashSharesMessage = (one other : List ℕ) → are_apart one other ≡ false
    → (message : List ℕ) × (begins_with one message ≡ true) × (begins_with other message ≡ true)

-- whether this was made of a message
abbrev pub is_made_of : Option (List ℕ) → List ℕ → Bool
is_made_of None message = false
is_made_of (Some shown) message = pointwise nat_eq shown message

-- One message is of the kind of the other: a request, the keep-alive, final or pending for the same services, or none
-- of these. It asks for silence where that does. It is not longer, and empty only if that is.
pub record IsSameKind (message shown : List ℕ) : Type 0 where
  pub kind : tester_kind shown ≡ tester_kind message
  pub answers : (service : ℕ) → answer_to service shown ≡ answer_to service message
  pub service : sid shown ≡ sid message
  pub negative : is_negative_response shown ≡ is_negative_response message
  pub silence : is_suppressing shown ≡ is_suppressing message
  pub most : length shown ≤ length message
  pub some : 1 ≤ length message → 1 ≤ length shown

-- what rules make of a message, and don't leave out, is of the same kind
abbrev pub MaskKeepsKind : Type 0
MaskKeepsKind = (rules : List RuleValue) → AreRules rules → (message shown : List ℕ) → made_of rules message ≡ Some shown → IsSameKind message shown

-- What a mask shows at a place behind the prefix, where this byte stands: none where what follows the places is cut
-- off, 0 where the place is masked, and else the byte.
abbrev pub shown_at : MaskValue → ℕ → Option ℕ → Option ℕ
shown_at mask place byte =
    if mask.cuts && nat_le (length mask.places) place then None
    else option_map (λ byte. if get_or mask.places place false then 0 else byte) byte

-- a mask works place by place
abbrev pub MaskedByPlaces : Type 0
MaskedByPlaces = (mask : MaskValue) (bytes : List ℕ) (place : ℕ) → slice_get (masked mask bytes) place ≡ shown_at mask place (slice_get bytes place)

-- no byte is made up but 0: what holds of 0 and of each byte of a message holds of each that is shown
abbrev pub NoByteIsMadeUp : Type 0
NoByteIsMadeUp = (rules : List RuleValue) (passes : ℕ → Bool) → passes 0 ≡ true → (message shown : List ℕ)
    → made_of rules message ≡ Some shown → list_all passes message ≡ true → list_all passes shown ≡ true

-- and none is added
abbrev pub NoByteIsAdded : Type 0
NoByteIsAdded = (rules : List RuleValue) (message shown : List ℕ) → made_of rules message ≡ Some shown → length shown ≤ length message

-- whether rules leave a message as it is
abbrev pub stays : List RuleValue → Message → Bool
stays rules message = is_made_of (made_of rules message.1) message.1

-- what rules leave are messages that they leave as they are
abbrev pub WhatIsLeftStays : Type 0
WhatIsLeftStays = (rules : List RuleValue) → AreApart rules → (M : List Message) → list_all (stays rules) (under rules M) ≡ true

-- and nothing is made of messages that stay
abbrev pub WhatStaysIsLeft : Type 0
WhatStaysIsLeft = (rules : List RuleValue) (M : List Message) → list_all (stays rules) M ≡ true → under rules M ≡ M

-- the text of a prefix is read back as the rule that drops its messages
abbrev pub PrefixIsReadBack : Type 0
PrefixIsReadBack = (prefix : List ℕ) → IsBytes prefix → drop_rule (encode_upper prefix) ≡ dropping (few_bytes prefix)

-- the text of a pattern is read back as the rule that masks with it, or why there is none
abbrev pub PatternIsReadBack : Type 0
PatternIsReadBack = (prefix : List ℕ) (mask : MaskValue) → IsBytes prefix
    → mask_rule (pattern_text prefix mask) ≡ masking_parts (few_bytes prefix) (few_places (Some mask))

-- what is read as a mask is spelled so, and no other text is
abbrev pub ReadAsSpelled : Type 0
ReadAsSpelled = (text : List ℕ) (mask : MaskValue) → mask_in text ≡ Some mask → text ≡ mask_text mask
