-- Which messages of a meaning have their place before the list of messages has ended, and which must wait.
use Rattle.std.specs.Prelude.{ℕ, ◌-◌, Bool, true, false, List, [], ◌∷◌, length, take, Option, Some, None, if◌then◌else◌}
use Rattle.direction.specs.Dir.{Message}
use Rattle.direction.specs.declared.Dir.TheVariants as dir
use Rattle.uds_message.specs.Message.{sid, negative_response}
use Rattle.uds_exchange.specs.Meaning.{ItemValue, exchange, stray, meaning, flattened}

-- whether one of the items is an exchange
abbrev pub has_exchange : List ItemValue → Bool
has_exchange [] = false
has_exchange (exchange request reply ∷ later) = true
has_exchange (stray d bytes ∷ later) = has_exchange later

-- the request of the last exchange, if that has no answer
abbrev pub open_request_in : List ItemValue → Option (List ℕ)
open_request_in [] = None
open_request_in (stray d bytes ∷ later) = open_request_in later
open_request_in (exchange request (Some reply) ∷ later) = open_request_in later
open_request_in (exchange request None ∷ later) = if has_exchange later then open_request_in later else Some request

-- the strays after the last exchange, if that has no answer
abbrev pub held_in : List ItemValue → List Message
held_in [] = []
held_in (stray d bytes ∷ later) = held_in later
held_in (exchange request (Some reply) ∷ later) = held_in later
held_in (exchange request None ∷ later) = if has_exchange later then held_in later else flattened later

-- the request that is open after a list of messages: it waits for its answer
abbrev pub open_request : List Message → Option (List ℕ)
open_request M = open_request_in (meaning M)

-- the messages that must wait at the end of a list: an answer to the open request would come before them
abbrev pub held : List Message → List Message
held M = held_in (meaning M)

-- the messages that have their place at the end of a list: those of the meaning, without those held at its end
abbrev pub early : List Message → List Message
early M = take (length (flattened (meaning M)) - length (held M)) (flattened (meaning M))

-- how many bytes a message has
abbrev pub message_length : Message → ℕ
message_length message = length message.1

-- the message of the unit that rejects a request: the negative response with the code generalReject (ISO 14229-1)
abbrev pub rejection_of : List ℕ → Message
rejection_of request = (dir.Unit, negative_response ∷ sid request ∷ 0x10 ∷ [])
