-- The messages of a session under rules. They stand before pairing: what is left out ends no part and answers nothing.
use Rattle.std.specs.Prelude.{ℕ, ◌+◌, Bool, List, [], ◌∷◌, Option, Some, None, is_none, if◌then◌else◌}
use Rattle.std.specs.List.{flat_map}
use Rattle.direction.specs.Dir.{Message}
use Rattle.direction.specs.declared.Dir.{Dir}
use Rattle.uds_rules.specs.Rule.{RuleValue, made_of}

-- the message of a side of which this was made, or none where it is left out
abbrev pub sent_as : Dir → Option (List ℕ) → List Message
sent_as d None = []
sent_as d (Some bytes) = (d, bytes) ∷ []

-- what rules make of one message
abbrev pub under_one : List RuleValue → Message → List Message
under_one rules message = sent_as message.0 (made_of rules message.1)

-- what they make of a list of messages: each by itself, in order
abbrev pub under : List RuleValue → List Message → List Message
under rules M = flat_map (under_one rules) M

-- whether they leave out a message
abbrev pub is_left_out : List RuleValue → Message → Bool
is_left_out rules message = is_none (made_of rules message.1)

-- how many of these messages they leave out
abbrev pub left_out : List RuleValue → List Message → ℕ
left_out rules [] = 0
left_out rules (message ∷ later) = (if is_left_out rules message then 1 else 0) + left_out rules later
