-- Devices of proof: the open exchange of a list of items, which is the last one, where that waits for its answer.
use Rattle.std.specs.Prelude.{ℕ, suc, List, [], ◌∷◌, Option, Some, None, option_map, if◌then◌else◌}
use Rattle.uds_message.specs.Message.{sid}
use Rattle.uds_exchange.specs.Meaning.{ItemValue, exchange, stray}
use Rattle.uds_exchange.specs.Order.{has_exchange}

-- a place and a request, with one more item before it
abbrev pub one_later : Option (ℕ × List ℕ) → Option (ℕ × List ℕ)
one_later None = None
one_later (Some place) = Some (suc place.0, place.1)

-- the place and the request of the last exchange, where it has no answer yet
abbrev pub open_exchange_in : List ItemValue → Option (ℕ × List ℕ)
open_exchange_in [] = None
open_exchange_in (stray d bytes ∷ later) = one_later (open_exchange_in later)
open_exchange_in (exchange request (Some reply) ∷ later) = one_later (open_exchange_in later)
open_exchange_in (exchange request None ∷ later) =
    if has_exchange later then one_later (open_exchange_in later) else Some (0, request)

-- the first byte of the request of the open exchange
abbrev pub open_sid_in : List ItemValue → Option ℕ
open_sid_in items = option_map (λ place. sid place.1) (open_exchange_in items)
