-- Names that the standards have for the first bytes of a message: small, in brackets, behind its bytes. What the tables
-- of `uds_names` lack has none.
use Rattle.std.specs.Prelude.{ℕ, ◌+◌, ◌*◌, ◌%◌, ◌==◌, ◌&&◌, ◌||◌, nat_lt, length, Bool, true, List, [], ◌∷◌, ◌++◌, codes, Option, Some, None, if◌then◌else◌}
use Rattle.can_log.specs.Digits.{hexadecimal}
use Rattle.uds_message.specs.Message.{is_response_sid, service_answered}
use Rattle.uds_names.specs.Services.{kwp_service_name, obd_service_name}
use Rattle.uds_names.specs.SubFunctions.{sub_function_name}
use Rattle.uds_names.specs.Identifiers.{data_identifier_name, routine_name}
use Rattle.uds_names.specs.ResponseCodes.{response_code_name}
use Rattle.trace_text.specs.Words.{code_text}

-- a response code by the name that a page alone has for it, with its digits, or else as `list` has it
abbrev pub code_by : Option (List ℕ) → ℕ → List ℕ
code_by None why = code_text why
code_by (Some name) why = name ++ codes " " ++ hexadecimal 2 why

-- a response code, as a page tells it
abbrev pub page_code : ℕ → List ℕ
page_code why = code_by (response_code_name why) why

-- a name behind a mark, if there is one
abbrev pub small_name : List ℕ → Option (List ℕ) → List ℕ
small_name mark None = []
small_name mark (Some name) = codes " <i>(" ++ mark ++ name ++ codes ")</i>"

-- a name before the digits of a level, if there is one
abbrev pub level_name : Option (List ℕ) → ℕ → List ℕ
level_name None level = []
level_name (Some name) level = codes " <i>(" ++ name ++ codes " " ++ hexadecimal 2 level ++ codes ")</i>"

-- the name of the data identifier that these bytes begin with
abbrev pub identifier_text : List ℕ → List ℕ
identifier_text (high ∷ low ∷ rest) = small_name [] (data_identifier_name (256 * high + low))
identifier_text shorter = []

-- the name of the routine that these bytes begin with
abbrev pub routine_text : List ℕ → List ℕ
routine_text (high ∷ low ∷ rest) = small_name [] (routine_name (256 * high + low))
routine_text shorter = []

-- the name of a sub-function of a service: the levels of SecurityAccess have no number in theirs, so it stands behind
abbrev pub sub_function_text : ℕ → ℕ → List ℕ
sub_function_text service sub_function =
    if service == 0x27 then level_name (sub_function_name service sub_function) (sub_function % 0x80)
    else small_name [] (sub_function_name service sub_function)

-- the names of the sub-function that these bytes begin with, and of the routine behind it
abbrev pub sub_function_names : ℕ → List ℕ → List ℕ
sub_function_names service [] = []
sub_function_names service (sub_function ∷ rest) =
    sub_function_text service sub_function ++ (if service == 0x31 then routine_text rest else [])

-- a data identifier stands behind the identifier of the service: ReadDataByIdentifier, ReadScalingDataByIdentifier,
-- WriteDataByIdentifier, InputOutputControlByIdentifier
abbrev pub has_data_identifier : ℕ → Bool
has_data_identifier service = service == 0x22 || (service == 0x24 || (service == 0x2E || service == 0x2F))

-- the names of what stands behind the identifier of a service, in the request and in the positive response
abbrev pub parameter_names : ℕ → List ℕ → List ℕ
parameter_names service parameters =
    if has_data_identifier service then identifier_text parameters else sub_function_names service parameters

-- a request asks for more than one data identifier
abbrev pub asks_for_several : ℕ → List ℕ → Bool
asks_for_several service parameters = service == 0x22 && nat_lt 2 (length parameters)

-- a positive response to this service repeats the sub-function, if the service has one
abbrev pub repeats_sub_function : ℕ → List ℕ → Bool
repeats_sub_function service [] = true
repeats_sub_function service (sub_function ∷ rest) = has_data_identifier service || nat_lt sub_function 0x80

-- the name of a service that is none of UDS, marked with where it is from
abbrev pub foreign_service : ℕ → List ℕ
foreign_service service =
    small_name (codes "OBD: ") (obd_service_name service) ++ small_name (codes "KWP2000: ") (kwp_service_name service)

-- the names behind the bytes of a request: of one for several data identifiers none, which would stand behind the last
abbrev pub request_names : ℕ → List ℕ → List ℕ
request_names service parameters =
    if asks_for_several service parameters then [] else foreign_service service ++ parameter_names service parameters

-- the names behind the bytes of a positive response to a service: it repeats a sub-function without bit 7
abbrev pub response_names : ℕ → List ℕ → List ℕ
response_names service parameters =
    if repeats_sub_function service parameters then parameter_names service parameters else []

-- the names behind the bytes of a message
abbrev pub names_text : List ℕ → List ℕ
names_text [] = []
names_text (first ∷ parameters) =
    if is_response_sid first then response_names (service_answered first) parameters else request_names first parameters
