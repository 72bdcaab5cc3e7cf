-- The laws of meanings, over the definitions alone.
use Rattle.std.specs.Prelude.{◌≡◌, ◌≢◌, ◌↔◌, ℕ, ◌+◌, Bool, true, List, [], ◌∷◌, ◌++◌, map, Option, Some, None, length, if◌then◌else◌}
use Rattle.std.specs.List.{list_all}
use Rattle.direction.specs.Dir.{Message}
use Rattle.uds_exchange.specs.Meaning.{is_tester_request, is_answer_to, is_pending_reply_to, ItemValue, exchange, stray_of}
use Rattle.uds_exchange.specs.Meaning.{meaning, flattened, removed_messages}
use Rattle.uds_exchange.specs.Decided.{decided, undecided}
use Rattle.uds_exchange.specs.Roles.{MessageRole, as_request, as_answer, as_removed, as_stray, IsOpenBehind, HasRole, AreRoles, arranged, those_removed}
use Rattle.uds_exchange.specs.Judging.{step_after}
use Rattle.uds_exchange.specs.Order.{open_request, held, early, rejection_of}
use Rattle.uds_exchange.specs.declared.step.Step.{Step}
use Rattle.uds_exchange.specs.declared.step.Step.TheVariants as step

-- the messages of a meaning have that meaning
abbrev pub MeaningIsKept : Type 0
MeaningIsKept = (M : List Message) → meaning (flattened (meaning M)) ≡ meaning M

-- the messages of a meaning and the removed ones together are as many as the list's
abbrev pub NoneIsLost : Type 0
NoneIsLost = (M : List Message) → length (flattened (meaning M)) + length (removed_messages M) ≡ length M

-- a meaning has no message that the list has not: what holds of all messages of a list holds of all of its meaning
abbrev pub NoneIsMadeUp : Type 0
NoneIsMadeUp = (passes : Message → Bool) (M : List Message)
    → list_all passes M ≡ true → list_all passes (flattened (meaning M)) ≡ true

-- a message is exactly one of request, answer, removed and stray
abbrev pub EachHasOneRole : Type 0
EachHasOneRole = (past : List Message) (message : Message)
    → (role : MessageRole) × HasRole past message role × ((other : MessageRole) → HasRole past message other → other ≡ role)

-- the messages of a list have their roles in one way
abbrev pub EachListHasRoles : Type 0
EachListHasRoles = (M : List Message)
    → (roles : List MessageRole) × AreRoles [] M roles
    × ((others : List MessageRole) → AreRoles [] M others → others ≡ roles)

-- the messages of a meaning are the list's in order, except that the removed ones are left out and an answer moves up
-- to its request
abbrev pub MessagesByRoles : Type 0
MessagesByRoles = (M : List Message) (roles : List MessageRole) → AreRoles [] M roles
    → (flattened (meaning M) ≡ arranged [] M roles) × (removed_messages M ≡ those_removed M roles)

-- the role that a message has by what becomes of it
abbrev pub role_of_step : Step → MessageRole
role_of_step (step.Request service) = as_request
role_of_step step.Answer = as_answer
role_of_step step.Removed = as_removed
role_of_step step.Hold = as_stray
role_of_step step.Pass = as_stray

-- what becomes of a message, which it and the open request alone decide, tells the role that `HasRole` finds by looking
-- back
abbrev pub StepTellsTheRole : Type 0
StepTellsTheRole = (M : List Message) (message : Message) → HasRole M message (role_of_step (step_after M message))

-- the open request is the last one, and none after it is its answer
abbrev pub OpenRequestIsLast : Type 0
OpenRequestIsLast = (M : List Message) (request : List ℕ)
    → (open_request M ≡ Some request) ↔ IsOpenBehind M request

-- the open request with one more message: that message where it is a request, and none where it answers the open one
abbrev pub open_with : Option (List ℕ) → Message → Option (List ℕ)
open_with None message = if is_tester_request message then Some message.1 else None
open_with (Some request) message =
    if is_tester_request message then Some message.1 else if is_answer_to request message then None else Some request

-- the open request of a list and one more message is known from that of the list
abbrev pub OpenRequestGoesOn : Type 0
OpenRequestGoesOn = (M : List Message) (message : Message)
    → open_request (M ++ message ∷ []) ≡ open_with (open_request M) message

-- what is removed of one more message, where this request is open: a pending reply for it that is not its answer
abbrev pub removed_with : Option (List ℕ) → Message → List Message
removed_with None message = []
removed_with (Some request) message =
    if is_answer_to request message then [] else if is_pending_reply_to request message then message ∷ [] else []

-- what is removed of a list and one more message is known from what is removed of the list, and from its open request
abbrev pub RemovedGoOn : Type 0
RemovedGoOn = (M : List Message) (message : Message)
    → removed_messages (M ++ message ∷ []) ≡ removed_messages M ++ removed_with (open_request M) message

-- The messages before, with this one put in somewhere, and else in order, are those after.
pub record IsPutIn (before : List Message) (message : Message) (after : List Message) : Type 0 where
  pub front : List Message
  pub rest : List Message
  pub was : before ≡ front ++ rest
  pub is : after ≡ front ++ message ∷ rest

-- by what becomes of a message, it is removed or put in
abbrev pub IsPutInBy : Step → List Message → Message → List Message → Type 0
IsPutInBy (step.Request service) before message after = IsPutIn before message after
IsPutInBy step.Answer before message after = IsPutIn before message after
IsPutInBy step.Removed before message after = after ≡ before
IsPutInBy step.Hold before message after = IsPutIn before message after
IsPutInBy step.Pass before message after = IsPutIn before message after

-- the messages of a meaning with one more message are those without it and that one, where it isn't removed: so none is
-- ever taken out again
abbrev pub OneMoreIsPutIn : Type 0
OneMoreIsPutIn = (M : List Message) (message : Message)
    → IsPutInBy (step_after M message) (flattened (meaning M)) message (flattened (meaning (M ++ message ∷ [])))

-- what is early and then what is held are the messages of the meaning
abbrev pub EarlyThenHeld : Type 0
EarlyThenHeld = (M : List Message) → early M ++ held M ≡ flattened (meaning M)

-- where no request is open nothing is held
abbrev pub HeldByOpenRequest : Type 0
HeldByOpenRequest = (M : List Message) → open_request M ≡ None → held M ≡ []

-- where messages are held, a rejection of the open request would come before them, and it is not the first of them:
-- so nothing more could be put
abbrev pub HeldMustWait : Type 0
HeldMustWait = (M : List Message) (first : Message) (rest : List Message) → held M ≡ first ∷ rest
    → (request : List ℕ) × IsOpenBehind M request
    × (flattened (meaning (M ++ rejection_of request ∷ [])) ≡ early M ++ rejection_of request ∷ held M)
    × (first ≢ rejection_of request)

-- what is early stays in front of the messages of the meaning, whatever follows
abbrev pub EarlyStays : Type 0
EarlyStays = (M more : List Message)
    → (rest : List Message) × (flattened (meaning (M ++ more)) ≡ early M ++ rest)

-- what is early begins what is early after more messages
abbrev pub EarlyGrows : Type 0
EarlyGrows = (M more : List Message) → (rest : List Message) × (early (M ++ more) ≡ early M ++ rest)

-- the messages put in all, early ones and then held ones, and the removed ones are as many as the list's
abbrev pub NoneIsLostInOrder : Type 0
NoneIsLostInOrder = (M : List Message) → length (early M ++ held M) + length (removed_messages M) ≡ length M

-- what is decided and then what is not are the items of the meaning
abbrev pub DecidedThenUndecided : Type 0
DecidedThenUndecided = (M : List Message) → decided M ++ undecided M ≡ meaning M

-- what is decided begins what is decided after more messages
abbrev pub DecidedGrows : Type 0
DecidedGrows = (M more : List Message) → (rest : List ItemValue) × (decided (M ++ more) ≡ decided M ++ rest)

-- where a request is open, a rejection of it would change its exchange, and the strays stand behind that: so nothing
-- more is decided
abbrev pub UndecidedMustWait : Type 0
UndecidedMustWait = (M : List Message) (request : List ℕ) → open_request M ≡ Some request
    → meaning (M ++ rejection_of request ∷ [])
    ≡ decided M ++ exchange request (Some (rejection_of request).1) ∷ map stray_of (held M)
