-- What a list of messages means: each request with its answer, and the messages that belong to no exchange
-- (ISO 14229-1, requests, positive and negative responses). Messages are paired by first byte and order alone.
use Rattle.std.specs.Prelude.{ℕ, Bool, true, false, not, ◌&&◌, List, [], ◌∷◌, ◌++◌, map, Option, Some, None, if◌then◌else◌}
use Rattle.std.specs.List.{flat_map}
use Rattle.direction.specs.Dir.{Message}
use Rattle.direction.specs.declared.Dir.{Dir}
use Rattle.direction.specs.declared.Dir.TheVariants as dir
use Rattle.uds_message.specs.Message.{sid, is_request, is_final_for, is_pending_for}

-- whether this is the direction of the tester's messages
abbrev pub is_from_tester : Dir → Bool
is_from_tester dir.Tester = true
is_from_tester dir.Unit = false

-- whether a message is a request of the tester
abbrev pub is_tester_request : Message → Bool
is_tester_request message = is_from_tester message.0 && is_request message.1

-- whether a message is one of the unit that is final for the request
abbrev pub is_answer_to : List ℕ → Message → Bool
is_answer_to request message = not (is_from_tester message.0) && is_final_for (sid request) message.1

-- whether a message is one of the unit that is pending for the request
abbrev pub is_pending_reply_to : List ℕ → Message → Bool
is_pending_reply_to request message = not (is_from_tester message.0) && is_pending_for (sid request) message.1

-- the messages before the first request
abbrev pub before_requests : List Message → List Message
before_requests [] = []
before_requests (message ∷ later) = if is_tester_request message then [] else message ∷ before_requests later

-- the part of a request: the request, and the messages after it up to the next request or the end
pub record Part : Type 0 where
  pub request : List ℕ
  pub behind : List Message

-- the part of this request with these messages after it
abbrev pub part : List ℕ → List Message → Part
part request behind = record { request = request; behind = behind }

-- the parts of a list's requests, in order
abbrev pub parts : List Message → List Part
parts [] = []
parts (message ∷ later) =
    if is_tester_request message then part message.1 (before_requests later) ∷ parts later else parts later

-- the answer to a request among the messages after it: the first that is final for it
abbrev pub answer : List ℕ → List Message → Option (List ℕ)
answer request [] = None
answer request (message ∷ later) = if is_answer_to request message then Some message.1 else answer request later

-- what is removed of the messages after a request: the replies pending for it before its answer, or all if none comes
abbrev pub removed : List ℕ → List Message → List Message
removed request [] = []
removed request (message ∷ later) =
    if is_answer_to request message then []
    else if is_pending_reply_to request message then message ∷ removed request later
    else removed request later

-- the strays among the messages after a request: those that are neither its answer nor removed
abbrev pub strays_in : List ℕ → List Message → List Message
strays_in request [] = []
strays_in request (message ∷ later) =
    if is_answer_to request message then later
    else if is_pending_reply_to request message then strays_in request later
    else message ∷ strays_in request later

-- an item of a meaning: a request with its answer, if it has one, or a message that belongs to no exchange
pub data ItemValue : Type 0 where
  exchange : List ℕ → Option (List ℕ) → ItemValue
  stray : Dir → List ℕ → ItemValue

-- a message that belongs to no exchange, as an item
abbrev pub stray_of : Message → ItemValue
stray_of message = stray message.0 message.1

-- the items of a part: its exchange, and then its strays
abbrev pub items_of : Part → List ItemValue
items_of this = exchange this.request (answer this.request this.behind) ∷ map stray_of (strays_in this.request this.behind)

-- the meaning of a list: what comes before the first request as strays, and then part by part
abbrev pub meaning : List Message → List ItemValue
meaning M = map stray_of (before_requests M) ++ flat_map items_of (parts M)

-- the messages of an item
abbrev pub messages_of : ItemValue → List Message
messages_of (exchange request None) = (dir.Tester, request) ∷ []
messages_of (exchange request (Some reply)) = (dir.Tester, request) ∷ (dir.Unit, reply) ∷ []
messages_of (stray d bytes) = (d, bytes) ∷ []

-- the messages of a meaning, in order
abbrev pub flattened : List ItemValue → List Message
flattened items = flat_map messages_of items

-- what is removed of a part
abbrev pub removed_of : Part → List Message
removed_of this = removed this.request this.behind

-- all that is removed of a list, part by part
abbrev pub removed_messages : List Message → List Message
removed_messages M = flat_map removed_of (parts M)
