-- The rules of a profile, in the order drops, masks.
use Rattle.std.specs.Prelude.{ℕ, ◌+◌, ◌-◌, nat_le, nat_lt, List, [], ◌∷◌, ◌++◌, codes, length, Option, Some, None, option_and_then, Result, Ok, Err, if◌then◌else◌}
use Rattle.toml.specs.Data.{Data, Items, no_items, item, Members, as_str, as_array, get_item, get_member}
use Rattle.uds_rules.specs.Rule.{RuleValue}
use Rattle.uds_rules.specs.Legal.{clash_in}
use Rattle.uds_rules.specs.declared.rule.RuleFault.{RuleFault}
use Rattle.profile.specs.Wrong.{WrongValue, many_rules, shared}
use Rattle.profile.specs.Keys.{rule_in}
use Rattle.profile.specs.declared.wrong.RuleKey.{RuleKey}
use Rattle.profile.specs.declared.wrong.RuleKey.TheVariants as rule_key

-- a rule behind earlier ones, unless it speaks of a message that the one at this place speaks of
abbrev pub unless_shared : Option ℕ → List RuleValue → RuleValue → Result (List RuleValue) WrongValue
unless_shared None earlier rule = Ok (earlier ++ rule ∷ [])
unless_shared (Some place) earlier rule = Err (shared place (length earlier))

-- a rule behind earlier ones, of which there are at most 63
abbrev pub rule_behind : List RuleValue → RuleValue → Result (List RuleValue) WrongValue
rule_behind earlier rule = if nat_le 64 (length earlier) then Err many_rules else unless_shared (clash_in earlier rule.prefix) earlier rule

-- what a text spells, behind what was read so far
abbrev pub spelled_behind : Result (List RuleValue) WrongValue → Result RuleValue RuleFault → Result (List RuleValue) WrongValue
spelled_behind (Err wrong) read = Err wrong
spelled_behind (Ok earlier) (Err fault) = Ok earlier
spelled_behind (Ok earlier) (Ok rule) = rule_behind earlier rule

-- an element, if it is a text, behind what was read so far
abbrev pub item_behind : RuleKey → Option (List ℕ) → Result (List RuleValue) WrongValue → Result (List RuleValue) WrongValue
item_behind key None earlier = earlier
item_behind key (Some text) earlier = spelled_behind earlier (rule_in key text)

-- the elements of an array behind what was read so far, up to the first that can't stand there
abbrev pub items_behind : RuleKey → Items → Result (List RuleValue) WrongValue → Result (List RuleValue) WrongValue
items_behind key no_items earlier = earlier
items_behind key (item element rest) earlier = items_behind key rest (item_behind key (as_str element) earlier)

-- the elements of an array, none where it is missing
abbrev pub items_or_none : Option Items → Items
items_or_none None = no_items
items_or_none (Some items) = items

-- the elements at a key
abbrev pub items_at : List ℕ → Members → Items
items_at key document = items_or_none (option_and_then as_array (get_member key document))

-- how many elements there are
abbrev pub item_count : Items → ℕ
item_count no_items = 0
item_count (item element rest) = item_count rest + 1

-- the rules that a profile has, or what is wrong with them beside one another
abbrev pub profile_rules : Members → Result (List RuleValue) WrongValue
profile_rules document =
    let drops = items_at (codes "drop") document in
    let masks = items_at (codes "mask") document in
    if nat_lt 64 (item_count drops + item_count masks) then Err many_rules
    else items_behind rule_key.Mask masks (items_behind rule_key.Drop drops (Ok []))

-- the element at a place, in the order drops, masks
abbrev pub element_at : ℕ → Items → Items → Option Data
element_at place drops masks = if nat_lt place (item_count drops) then get_item place drops else get_item (place - item_count drops) masks

-- the text of the rule at a place
abbrev pub written_rule : ℕ → Members → Option (List ℕ)
written_rule place document = option_and_then as_str (element_at place (items_at (codes "drop") document) (items_at (codes "mask") document))
