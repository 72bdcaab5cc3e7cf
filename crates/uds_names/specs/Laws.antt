-- What holds of the names.
use Prim.Native.Char.{code}
use Rattle.std.specs.Prelude.{◌≡◌, ℕ, ◌+◌, ◌*◌, ◌%◌, ◌<◌, ◌==◌, ◌||◌, Bool, true, List, [], ◌∷◌, Option, Some, None, length, if◌then◌else◌}
use Rattle.std.specs.List.{AllByRecursion, list_all}
use Rattle.can_log.specs.Line.{bytes_spelled}
use Rattle.uds_message.specs.Tables.{response_codes, services}
use Rattle.uds_names.specs.Names.{is_within}
use Rattle.uds_names.specs.Services.{kwp_service_name, obd_service_name}
use Rattle.uds_names.specs.SubFunctions.{sub_function_name}
use Rattle.uds_names.specs.Identifiers.{data_identifier_name, routine_name}
use Rattle.uds_names.specs.ResponseCodes.{response_code_name}
use Rattle.uds_names.specs.TroubleCodes.{status_bit_name, trouble_code, trouble_records}

-- a letter or a digit of ASCII, a blank, or one of the signs - / and the comma: in HTML and in JSON it is nothing but
-- itself
abbrev pub is_plain : ℕ → Bool
is_plain b =
    is_within (code "a") (code "z") b || (is_within (code "A") (code "Z") b || (is_within (code "0") (code "9") b
    || (b == code " " || (b == code "-" || (b == code "/" || b == code ",")))))

-- each byte of a name is plain, if there is one
abbrev pub is_plain_name : Option (List ℕ) → Bool
is_plain_name None = true
is_plain_name (Some name) = list_all is_plain name

-- each name is plain, whatever number it is of
abbrev pub NamesArePlain : Type 0
NamesArePlain = (first second : ℕ)
    → (is_plain_name (sub_function_name first second) ≡ true)
    × (is_plain_name (data_identifier_name first) ≡ true)
    × (is_plain_name (routine_name first) ≡ true)
    × (is_plain_name (response_code_name first) ≡ true)
    × (is_plain_name (obd_service_name first) ≡ true)
    × (is_plain_name (kwp_service_name first) ≡ true)
    × (is_plain_name (status_bit_name first) ≡ true)

-- no response code of the table of `uds_message` has a second name here, and no service of its table
abbrev pub NothingIsNamedTwice : Type 0
NothingIsNamedTwice =
    AllByRecursion (λ row. response_code_name row.code ≡ None) response_codes
    × AllByRecursion (λ row. (obd_service_name row.sid ≡ None) × (kwp_service_name row.sid ≡ None)) services

-- each trouble code is plain, whatever its bytes
abbrev pub TroubleCodesArePlain : Type 0
TroubleCodesArePlain = (high middle low : ℕ) → list_all is_plain (trouble_code high middle low) ≡ true

-- the system that a letter is of
abbrev pub system_of : ℕ → ℕ
system_of letter =
    if letter == code "P" then 0 else if letter == code "C" then 1 else if letter == code "B" then 2 else 3

-- the bytes that digits spell, the two high bits of the first one those of the system
abbrev pub in_system : ℕ → List ℕ → List ℕ
in_system system [] = []
in_system system (high ∷ rest) = (0x40 * system + high) ∷ rest

-- the bytes that a code is of: its digits spell them, and its letter the two high bits of the first one
abbrev pub code_bytes : List ℕ → List ℕ
code_bytes (letter ∷ a ∷ b ∷ c ∷ d ∷ dash ∷ failure_type) =
    in_system (system_of letter) (bytes_spelled (a ∷ b ∷ c ∷ d ∷ failure_type))
code_bytes shorter = []

-- the bytes of a trouble code are read back from it: no two codes are spelled alike
abbrev pub TroubleCodeIsReadBack : Type 0
TroubleCodeIsReadBack = (high middle low : ℕ) → high < 256 → middle < 256 → low < 256
    → code_bytes (trouble_code high middle low) ≡ high ∷ middle ∷ low ∷ []

-- the trouble codes of a message are whole: four bytes of each, whatever message it is
abbrev pub TroubleRecordsAreWhole : Type 0
TroubleRecordsAreWhole = (response : List ℕ) → length (trouble_records response) % 4 ≡ 0
