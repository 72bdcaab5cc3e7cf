-- Which rules there are, and which stand beside one another.
use Rattle.std.specs.Prelude.{◌≡◌, ℕ, ◌+◌, ◌≤◌, ◌==◌, ◌&&◌, ◌||◌, not, Bool, true, false, List, [], ◌∷◌, length, Option, Some, None, option_map, if◌then◌else◌}
use Rattle.std.specs.List.{AllByRecursion}
use Rattle.uds_message.specs.Message.{negative_response}
use Rattle.uds_message.specs.Tables.{has_sub_function}
use Rattle.uds_rules.specs.Mask.{MaskValue}
use Rattle.uds_rules.specs.Rule.{RuleValue, begins_with}
use Rattle.uds_rules.specs.declared.rule.Deed.{Deed}
use Rattle.uds_rules.specs.declared.rule.Deed.TheVariants as deed

-- the service identifier of TesterPresent (ISO 14229-1, TesterPresent service)
abbrev pub tester_present : ℕ
tester_present = 0x3E

-- Messages whose later bytes say what they are: a TesterPresent is the keep-alive by its second byte, and a negative
-- response answers, and is pending, by its second and third (ISO 14229-1, negative response message). None is masked.
abbrev pub is_maskable : List ℕ → Bool
is_maskable [] = false
is_maskable (first ∷ prefix) = not (first == tester_present || first == negative_response)

-- whether one of the places is masked
abbrev pub has_masked_place : List Bool → Bool
has_masked_place [] = false
has_masked_place (is_masked ∷ places) = is_masked || has_masked_place places

-- whether a mask masks a place or cuts off what follows
abbrev pub masks_something : MaskValue → Bool
masks_something mask = has_masked_place mask.places || mask.cuts

-- whether the first byte behind the prefix is kept, by these places and whether what follows is cut off
abbrev pub keeps_first : List Bool → Bool → Bool
keeps_first [] cuts = not cuts
keeps_first (is_masked ∷ places) cuts = not is_masked

-- Whether a mask changes no sub-function (ISO 14229-1, sub-function parameter): the byte behind the first, of a service
-- that has one. Its bit 7 asks for silence.
abbrev pub keeps_sub_function : List ℕ → MaskValue → Bool
keeps_sub_function (service ∷ []) mask = not (has_sub_function service) || keeps_first mask.places mask.cuts
keeps_sub_function prefix mask = true

-- A mask on messages with this prefix.
pub record IsMask (prefix : List ℕ) (mask : MaskValue) : Type 0 where
  pub places : length mask.places ≤ 64
  pub some : masks_something mask ≡ true
  pub messages : is_maskable prefix ≡ true
  pub sub_function : keeps_sub_function prefix mask ≡ true

-- what may be done with the messages of a prefix
abbrev pub IsDeed : List ℕ → Deed → Type 0
IsDeed prefix deed.Drop = Unit {0}
IsDeed prefix (deed.Mask mask) = IsMask prefix mask

-- A rule: its prefix has 1 to 16 bytes.
pub record IsRule (rule : RuleValue) : Type 0 where
  pub least : 1 ≤ length rule.prefix
  pub most : length rule.prefix ≤ 16
  pub deed : IsDeed rule.prefix rule.deed

-- neither of two prefixes begins with the other, so no message begins with both
abbrev pub are_apart : List ℕ → List ℕ → Bool
are_apart one other = not (begins_with one other || begins_with other one)

-- a prefix is apart from that of each of these rules
abbrev pub is_apart_from : List RuleValue → List ℕ → Bool
is_apart_from [] prefix = true
is_apart_from (rule ∷ rules) prefix = are_apart rule.prefix prefix && is_apart_from rules prefix

-- the place of the first of these rules with which one of this prefix would share a message, if there is one
abbrev pub clash_in : List RuleValue → List ℕ → Option ℕ
clash_in [] prefix = None
clash_in (rule ∷ rules) prefix = if are_apart rule.prefix prefix then option_map (λ place. place + 1) (clash_in rules prefix) else Some 0

-- no two of these rules speak of one message
abbrev pub AreApart : List RuleValue → Type 0
AreApart [] = Unit {0}
AreApart (rule ∷ rules) = (is_apart_from rules rule.prefix ≡ true) × AreApart rules

-- The rules of one profile: at most 64, no two of which speak of one message.
pub record AreRules (rules : List RuleValue) : Type 0 where
  pub most : length rules ≤ 64
  pub each : AllByRecursion IsRule rules
  pub apart : AreApart rules
