-- What each message of a list is, told by looking back over the messages before it.
use Rattle.std.specs.Prelude.{◌≡◌, ℕ, Bool, true, false, ⊤, List, [], ◌∷◌, ◌++◌, if◌then◌else◌}
use Rattle.std.specs.List.{list_any}
use Rattle.direction.specs.Dir.{Message}
use Rattle.direction.specs.declared.Dir.TheVariants as dir
use Rattle.uds_message.specs.Message.{is_request}
use Rattle.uds_exchange.specs.Meaning.{is_tester_request, is_answer_to, is_pending_reply_to}

-- the request is open after these messages: it is the last request among them, and none after it is its answer
pub record IsOpenBehind (past : List Message) (request : List ℕ) : Type 0 where
  pub earlier : List Message
  pub since : List Message
  pub place : past ≡ earlier ++ (dir.Tester, request) ∷ since
  pub is_one : is_request request ≡ true
  pub is_last : list_any is_tester_request since ≡ false
  pub is_unanswered : list_any (is_answer_to request) since ≡ false

-- what a message is to its list: a request, the answer to one, a pending reply that is removed, or none of these
pub data MessageRole : Type 0 where
  as_request : MessageRole
  as_answer : MessageRole
  as_removed : MessageRole
  as_stray : MessageRole

-- the message is the answer to the open request
abbrev pub AnswersOpen : List Message → Message → Type 0
AnswersOpen past message = (request : List ℕ) × IsOpenBehind past request × (is_answer_to request message ≡ true)

-- the message is a pending reply to the open request
abbrev pub IsPendingForOpen : List Message → Message → Type 0
IsPendingForOpen past message =
    (request : List ℕ) × IsOpenBehind past request × (is_pending_reply_to request message ≡ true)

-- what a message is after the messages `past`: a request by itself, an answer or removed by the open request, else
-- a stray
abbrev pub HasRole : List Message → Message → MessageRole → Type 0
HasRole past message as_request = is_tester_request message ≡ true
HasRole past message as_answer = AnswersOpen past message
HasRole past message as_removed = IsPendingForOpen past message
HasRole past message as_stray =
    (is_tester_request message ≡ false) × (¬ AnswersOpen past message) × (¬ IsPendingForOpen past message)

-- these are the roles of the messages, where the messages `past` came before them
abbrev pub AreRoles : List Message → List Message → List MessageRole → Type 0
AreRoles past [] [] = ⊤
AreRoles past (message ∷ later) (role ∷ roles) = HasRole past message role × AreRoles (past ++ message ∷ []) later roles
AreRoles past [] (role ∷ roles) = ⊥
AreRoles past (message ∷ later) [] = ⊥

-- the messages with one more, directly after the last request among them
abbrev pub behind_last_request : List Message → Message → List Message
behind_last_request [] more = more ∷ []
behind_last_request (message ∷ later) more =
    if list_any is_tester_request later then message ∷ behind_last_request later more
    else if is_tester_request message then message ∷ more ∷ later
    else message ∷ behind_last_request later more

-- what a message adds to the messages in order: an answer moves up to its request, a removed message is left out
abbrev pub placed : MessageRole → List Message → Message → List Message
placed as_request out message = out ++ message ∷ []
placed as_stray out message = out ++ message ∷ []
placed as_answer out message = behind_last_request out message
placed as_removed out message = out

-- the messages with these roles, each placed after those of `out`
abbrev pub arranged : List Message → List Message → List MessageRole → List Message
arranged out (message ∷ later) (role ∷ roles) = arranged (placed role out message) later roles
arranged out messages roles = out

-- whether a role is that of a pending reply that is removed
abbrev pub is_removed : MessageRole → Bool
is_removed as_removed = true
is_removed role = false

-- the messages that are removed, by the roles of all
abbrev pub those_removed : List Message → List MessageRole → List Message
those_removed (message ∷ later) (role ∷ roles) =
    if is_removed role then message ∷ those_removed later roles else those_removed later roles
those_removed messages roles = []
