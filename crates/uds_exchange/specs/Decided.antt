-- Which items of a meaning are decided before the list of messages has ended, and which are not.
use Rattle.std.specs.Prelude.{ℕ, List, [], ◌∷◌, map, Option, Some, None, if◌then◌else◌}
use Rattle.direction.specs.Dir.{Message}
use Rattle.uds_exchange.specs.Meaning.{ItemValue, exchange, stray, stray_of, meaning}
use Rattle.uds_exchange.specs.Order.{has_exchange, open_request, held}

-- of a list of items those before the last exchange, where that has no answer; else all of them
abbrev pub decided_in : List ItemValue → List ItemValue
decided_in [] = []
decided_in (stray d bytes ∷ later) = stray d bytes ∷ decided_in later
decided_in (exchange request (Some reply) ∷ later) = exchange request (Some reply) ∷ decided_in later
decided_in (exchange request None ∷ later) = if has_exchange later then exchange request None ∷ decided_in later else []

-- the items that are decided by a list of messages, whatever follows it
abbrev pub decided : List Message → List ItemValue
decided M = decided_in (meaning M)

-- the open request as an exchange with this answer, if there is one, and these messages as strays after it
abbrev pub exchange_items : Option (List ℕ) → Option (List ℕ) → List Message → List ItemValue
exchange_items None reply holds = []
exchange_items (Some request) reply holds = exchange request reply ∷ map stray_of holds

-- the items that are not decided by a list of messages: the exchange of its open request, and the strays after that
abbrev pub undecided : List Message → List ItemValue
undecided M = exchange_items (open_request M) None (held M)
