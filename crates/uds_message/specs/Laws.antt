-- What holds of messages by their bytes, and of the tables.
use Rattle.std.specs.Prelude.{◌≡◌, ℕ, true, false, List, Some}
use Rattle.std.specs.List.{AllByRecursion}
use Rattle.uds_message.specs.Message.{is_keep_alive, is_request, is_suppressing, is_response_sid, is_final_for, is_pending_for}
use Rattle.uds_message.specs.Tables.{services, service_row, response_codes, code_name}

-- the keep-alive asks for no answer: it is no request, and it suppresses the positive response
abbrev pub KeepAliveAsksNothing : Type 0
KeepAliveAsksNothing = (message : List ℕ) → is_keep_alive message ≡ true → (is_request message ≡ false) × (is_suppressing message ≡ true)

-- no message is final and pending for one service
abbrev pub FinalIsNotPending : Type 0
FinalIsNotPending = (service : ℕ) (message : List ℕ) → is_final_for service message ≡ true → is_pending_for service message ≡ false

-- each row of the table of services is found by its identifier, and that is no response's
abbrev pub EachServiceIsFound : Type 0
EachServiceIsFound = AllByRecursion (λ row. (service_row row.sid ≡ Some row) × (is_response_sid row.sid ≡ false)) services

-- each row of the table of response codes is found by its code
abbrev pub EachCodeIsFound : Type 0
EachCodeIsFound = AllByRecursion (λ row. code_name row.code ≡ Some row.name) response_codes
