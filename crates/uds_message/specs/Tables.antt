-- The names of services and of response codes, and which services have a sub-function (ISO 14229-1; the
-- table of services holds those of more than one edition, and the spellings are this project's).
use Rattle.std.specs.Prelude.{ℕ, Bool, true, false, List, [], ◌∷◌, Option, Some, None, codes, ◌==◌, if◌then◌else◌}
use Rattle.std.specs.Option.{option_map_or}

-- a row of the table of services: the service identifier (SID), the name, and whether there is a sub-function
pub record Service : Type 0 where
  pub sid : ℕ
  pub name : List ℕ
  pub has_sub_function : Bool

-- a row of the table of response codes
pub record Code : Type 0 where
  pub code : ℕ
  pub name : List ℕ

-- a row of a service with a sub-function
abbrev pub with_sub_function : ℕ → List ℕ → Service
with_sub_function sid name = record { sid = sid; name = name; has_sub_function = true }

-- a row of a service without one
abbrev pub without_sub_function : ℕ → List ℕ → Service
without_sub_function sid name = record { sid = sid; name = name; has_sub_function = false }

-- a row of a code and its name
abbrev pub code_row : ℕ → List ℕ → Code
code_row code name = record { code = code; name = name }

-- the services, by rising identifier
abbrev pub services : List Service
services =
    with_sub_function 0x10 (codes "DiagnosticSessionControl")
    ∷ with_sub_function 0x11 (codes "ECUReset")
    ∷ without_sub_function 0x14 (codes "ClearDiagnosticInformation")
    ∷ with_sub_function 0x19 (codes "ReadDTCInformation")
    ∷ without_sub_function 0x22 (codes "ReadDataByIdentifier")
    ∷ without_sub_function 0x23 (codes "ReadMemoryByAddress")
    ∷ without_sub_function 0x24 (codes "ReadScalingDataByIdentifier")
    ∷ with_sub_function 0x27 (codes "SecurityAccess")
    ∷ with_sub_function 0x28 (codes "CommunicationControl")
    ∷ with_sub_function 0x29 (codes "Authentication")
    ∷ without_sub_function 0x2A (codes "ReadDataByPeriodicIdentifier")
    ∷ with_sub_function 0x2C (codes "DynamicallyDefineDataIdentifier")
    ∷ without_sub_function 0x2E (codes "WriteDataByIdentifier")
    ∷ without_sub_function 0x2F (codes "InputOutputControlByIdentifier")
    ∷ with_sub_function 0x31 (codes "RoutineControl")
    ∷ without_sub_function 0x34 (codes "RequestDownload")
    ∷ without_sub_function 0x35 (codes "RequestUpload")
    ∷ without_sub_function 0x36 (codes "TransferData")
    ∷ without_sub_function 0x37 (codes "RequestTransferExit")
    ∷ without_sub_function 0x38 (codes "RequestFileTransfer")
    ∷ without_sub_function 0x3D (codes "WriteMemoryByAddress")
    ∷ with_sub_function 0x3E (codes "TesterPresent")
    ∷ with_sub_function 0x83 (codes "AccessTimingParameter")
    ∷ without_sub_function 0x84 (codes "SecuredDataTransmission")
    ∷ with_sub_function 0x85 (codes "ControlDTCSetting")
    ∷ with_sub_function 0x86 (codes "ResponseOnEvent")
    ∷ with_sub_function 0x87 (codes "LinkControl")
    ∷ []

-- the negative response codes, by rising value
abbrev pub response_codes : List Code
response_codes =
    code_row 0x10 (codes "generalReject")
    ∷ code_row 0x11 (codes "serviceNotSupported")
    ∷ code_row 0x12 (codes "subFunctionNotSupported")
    ∷ code_row 0x13 (codes "incorrectMessageLengthOrInvalidFormat")
    ∷ code_row 0x14 (codes "responseTooLong")
    ∷ code_row 0x21 (codes "busyRepeatRequest")
    ∷ code_row 0x22 (codes "conditionsNotCorrect")
    ∷ code_row 0x24 (codes "requestSequenceError")
    ∷ code_row 0x25 (codes "noResponseFromSubnetComponent")
    ∷ code_row 0x26 (codes "failurePreventsExecutionOfRequestedAction")
    ∷ code_row 0x31 (codes "requestOutOfRange")
    ∷ code_row 0x33 (codes "securityAccessDenied")
    ∷ code_row 0x35 (codes "invalidKey")
    ∷ code_row 0x36 (codes "exceedNumberOfAttempts")
    ∷ code_row 0x37 (codes "requiredTimeDelayNotExpired")
    ∷ code_row 0x70 (codes "uploadDownloadNotAccepted")
    ∷ code_row 0x71 (codes "transferDataSuspended")
    ∷ code_row 0x72 (codes "generalProgrammingFailure")
    ∷ code_row 0x73 (codes "wrongBlockSequenceCounter")
    ∷ code_row 0x78 (codes "requestCorrectlyReceivedResponsePending")
    ∷ code_row 0x7E (codes "subFunctionNotSupportedInActiveSession")
    ∷ code_row 0x7F (codes "serviceNotSupportedInActiveSession")
    ∷ []

-- the row of a service, if the table has one
abbrev pub service_row_in : List Service → ℕ → Option Service
service_row_in [] sid = None
service_row_in (row ∷ rows) sid = if sid == row.sid then Some row else service_row_in rows sid

-- its row in the table of services
abbrev pub service_row : ℕ → Option Service
service_row sid = service_row_in services sid

-- whether a service has a sub-function; one that the table lacks has none
abbrev pub has_sub_function : ℕ → Bool
has_sub_function sid = option_map_or (λ row. row.has_sub_function) (service_row sid) false

-- the name of a response code, if the table has one
abbrev pub code_name_in : List Code → ℕ → Option (List ℕ)
code_name_in [] code = None
code_name_in (row ∷ rows) code = if code == row.code then Some row.name else code_name_in rows code

-- its name in the table of response codes
abbrev pub code_name : ℕ → Option (List ℕ)
code_name code = code_name_in response_codes code
