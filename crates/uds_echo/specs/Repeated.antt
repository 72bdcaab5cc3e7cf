-- How many bytes of a request its positive response repeats, by the service (ISO 14229-1, the section of each service, request
-- message and positive response message definition).
use Rattle.std.specs.Prelude.{ℕ, ◌%◌, ◌==◌, ◌&&◌, ◌||◌, Bool, List, [], ◌∷◌, length, nat_le, nat_lt, if◌then◌else◌}
use Rattle.uds_message.specs.Message.{sid}
use Rattle.uds_message.specs.Tables.{has_sub_function}

-- the number of the sub-function of a message: the low seven bits of its second byte
abbrev pub sub_function_of : List ℕ → ℕ
sub_function_of (first ∷ sub_function ∷ rest) = sub_function % 0x80
sub_function_of shorter = 0

-- startRoutine, stopRoutine and requestRoutineResults, which tell a routine of two bytes
abbrev pub tells_routine : ℕ → Bool
tells_routine number = nat_le 1 number && nat_le number 3

-- a data identifier stands behind the identifier of the service: ReadDataByIdentifier, ReadScalingDataByIdentifier,
-- WriteDataByIdentifier, InputOutputControlByIdentifier
abbrev pub repeats_identifier : ℕ → Bool
repeats_identifier service = service == 0x22 || (service == 0x24 || (service == 0x2E || service == 0x2F))

-- a number of one byte stands behind it: TransferData has the blockSequenceCounter, RequestFileTransfer the modeOfOperation
abbrev pub repeats_byte : ℕ → Bool
repeats_byte service = service == 0x36 || service == 0x38

-- a message has a byte at the place behind so many
abbrev pub is_longer : ℕ → List ℕ → Bool
is_longer count message = nat_lt count (length message)

-- so many bytes behind the service identifier are repeated of most services: the sub-function, if the service has one, or the
-- data identifier, or the number; of others none
abbrev pub count_of_service : ℕ → ℕ
count_of_service service =
    if has_sub_function service then 1 else if repeats_identifier service then 2 else if repeats_byte service then 1 else 0

-- So many bytes behind the service identifier are repeated: of RoutineControl sub-function and routine, of
-- DynamicallyDefineDataIdentifier sub-function and identifier where both messages have this one.
abbrev pub repeated_count : List ℕ → List ℕ → ℕ
repeated_count request answer =
    if sid request == 0x2C then (if is_longer 3 request && is_longer 3 answer then 3 else 1)
    else if sid request == 0x31 then (if tells_routine (sub_function_of request) then 3 else 1)
    else count_of_service (sid request)
