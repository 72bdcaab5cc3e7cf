-- What rules that leave out no message make of items.
use Rattle.std.specs.Prelude.{ℕ, Bool, List, Option, Some, None, option_map}
use Rattle.std.specs.List.{list_all}
use Rattle.uds_rules.specs.Rule.{RuleValue, masks, made_of}
use Rattle.uds_exchange.specs.Meaning.{ItemValue, exchange, stray}

-- each rule masks, so none leaves a message out
abbrev pub only_mask : List RuleValue → Bool
only_mask rules = list_all (λ rule. masks rule.deed) rules

-- what was made of a message, or the message where that is nothing
abbrev pub made_or_same : List ℕ → Option (List ℕ) → List ℕ
made_or_same message None = message
made_or_same message (Some shown) = shown

-- what rules make of a message, where they don't leave it out
abbrev pub message_under : List RuleValue → List ℕ → List ℕ
message_under rules message = made_or_same message (made_of rules message)

-- an item each of whose messages is this one now
abbrev pub item_by : (List ℕ → List ℕ) → ItemValue → ItemValue
item_by shown (exchange request reply) = exchange (shown request) (option_map shown reply)
item_by shown (stray d bytes) = stray d (shown bytes)

-- an item with its messages under rules
abbrev pub item_under : List RuleValue → ItemValue → ItemValue
item_under rules item = item_by (message_under rules) item
