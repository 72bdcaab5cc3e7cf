-- The message formats of ISO 14229-1, told apart by the bytes of a message alone. The empty message is none of them.
use Rattle.std.specs.Prelude.{ℕ, ◌+◌, ◌-◌, Bool, false, not, ◌&&◌, ◌||◌, List, [], ◌∷◌, ◌==◌, if◌then◌else◌}
use Rattle.std.specs.Int.{bit_at}
use Rattle.uds_message.specs.declared.message.TesterKind.{TesterKind}
use Rattle.uds_message.specs.declared.message.TesterKind.TheVariants.{Request, KeepAlive, Other}
use Rattle.uds_message.specs.declared.message.Answer.{Answer}
use Rattle.uds_message.specs.declared.message.Answer.TheVariants.{Final, Pending, No}
use Rattle.uds_message.specs.Tables.{has_sub_function}

-- the service identifier (SID) of a message is its first byte
abbrev pub sid : List ℕ → ℕ
sid [] = 0
sid (first ∷ parameters) = first

-- the service identifier of a negative response (ISO 14229-1, negative response message)
abbrev pub negative_response : ℕ
negative_response = 0x7F

-- a response is negative by its first byte
abbrev pub is_negative_response : List ℕ → Bool
is_negative_response response = sid response == negative_response

-- the response code of a negative response is its third byte
abbrev pub response_code : List ℕ → ℕ
response_code (first ∷ refused ∷ code ∷ rest) = code
response_code shorter = 0

-- bit 6 tells the identifiers of responses from those of requests (ISO 14229-1, service identifier values)
abbrev pub is_response_sid : ℕ → Bool
is_response_sid identifier = bit_at identifier 6 == 1

-- the keep-alive is the TesterPresent request whose positive response is suppressed: 3E 80 and no more
abbrev pub is_keep_alive : List ℕ → Bool
is_keep_alive (first ∷ sub_function ∷ []) = first == 0x3E && sub_function == 0x80
is_keep_alive message = false

-- a request is a message of the tester whose identifier is no response's; the keep-alive is set apart
abbrev pub is_request : List ℕ → Bool
is_request [] = false
is_request (first ∷ parameters) = not (is_response_sid first) && not (is_keep_alive (first ∷ parameters))

-- a positive response to the service: the identifier is the service's + 40 hexadecimal (and not 7F, a negative response's)
abbrev pub is_positive : ℕ → List ℕ → Bool
is_positive service [] = false
is_positive service (first ∷ parameters) = first == service + 0x40 && not (first == negative_response)

-- the service that a positive response with this identifier answers
abbrev pub service_answered : ℕ → ℕ
service_answered identifier = identifier - 0x40

-- a negative response to the service, with a code that passes the test: 7F, the service, the code and no more
abbrev pub is_negative : ℕ → (ℕ → Bool) → List ℕ → Bool
is_negative service passes (first ∷ refused ∷ code ∷ []) = first == negative_response && (refused == service && passes code)
is_negative service passes message = false

-- the code requestCorrectlyReceived-ResponsePending (ISO 14229-1, Annex A.1)
abbrev pub is_response_pending : ℕ → Bool
is_response_pending code = code == 0x78

-- final for a request to the service: the positive response, or a negative one whose code is not response pending
abbrev pub is_final_for : ℕ → List ℕ → Bool
is_final_for service message =
    not (is_response_sid service)
    && (is_positive service message || is_negative service (λ code. not (is_response_pending code)) message)

-- pending for a request to the service: the negative response whose code is response pending
abbrev pub is_pending_for : ℕ → List ℕ → Bool
is_pending_for service message = not (is_response_sid service) && is_negative service is_response_pending message

-- what a message of the tester is
abbrev pub tester_kind : List ℕ → TesterKind
tester_kind message = if is_request message then Request else if is_keep_alive message then KeepAlive else Other

-- what a message of the unit is to a request to the service
abbrev pub answer_to : ℕ → List ℕ → Answer
answer_to service message = if is_final_for service message then Final else if is_pending_for service message then Pending else No

-- the suppressPosRspMsgIndicationBit: bit 7 of the byte after the identifier, where the service has a sub-function
abbrev pub is_suppressing : List ℕ → Bool
is_suppressing (service ∷ sub_function ∷ parameters) = has_sub_function service && bit_at sub_function 7 == 1
is_suppressing message = false
