-- Diagnostic trouble codes (DTC): how people spell them, what their status says, and where a message has some. That a code
-- is one of SAE J2012 no message says: its format is asked for apart (ISO 14229-1, DTCFormatIdentifier).
use Prim.Native.Char.{code}
use Rattle.std.specs.Prelude.{ℕ, ◌/◌, ◌%◌, ◌==◌, ◌||◌, Bool, List, [], ◌∷◌, ◌++◌, Option, codes, length, drop, take, nat_le, if◌then◌else◌}
use Rattle.can_log.specs.Digits.{hexadecimal}
use Rattle.uds_names.specs.Names.{Named, named, name_in, is_within}

-- the letter of the system that a code is of: powertrain, chassis, body or network (SAE J2012, ISO 15031-6, structure of
-- trouble codes)
abbrev pub system_letter : ℕ → ℕ
system_letter system =
    if system == 0 then code "P" else if system == 1 then code "C" else if system == 2 then code "B" else code "U"

-- A trouble code of three bytes, as people spell it (SAE J2012-DA, ISO 15031-6). The two high bits of the first byte are
-- its system, the next two the first digit, from 0 to 3; three digits follow, and behind a dash the two of the third
-- byte, the failure type.
abbrev pub trouble_code : ℕ → ℕ → ℕ → List ℕ
trouble_code high middle low =
    system_letter (high / 0x40) ∷ (hexadecimal 2 (high % 0x40) ++ hexadecimal 2 middle ++ codes "-" ++ hexadecimal 2 low)

-- what each bit of the status of a trouble code says where it is 1, bit 0 first (ISO 14229-1, Annex D.2)
abbrev pub status_bits : List Named
status_bits =
    named 0 (codes "testFailed")
    ∷ named 1 (codes "testFailedThisOperationCycle")
    ∷ named 2 (codes "pendingDTC")
    ∷ named 3 (codes "confirmedDTC")
    ∷ named 4 (codes "testNotCompletedSinceLastClear")
    ∷ named 5 (codes "testFailedSinceLastClear")
    ∷ named 6 (codes "testNotCompletedThisOperationCycle")
    ∷ named 7 (codes "warningIndicatorRequested")
    ∷ []

-- the name of a bit of the status of a trouble code
abbrev pub status_bit_name : ℕ → Option (List ℕ)
status_bit_name bit = name_in status_bits bit

-- the reports of ReadDTCInformation which are a list of codes, each with its status, behind the status availability mask
-- (ISO 14229-1, ReadDTCInformation, positive response message definitions)
abbrev pub lists_codes : ℕ → Bool
lists_codes report = report == 0x02 || (is_within 0x0A 0x0E report || report == 0x15)

-- the reports which begin with one code and its status
abbrev pub begins_with_code : ℕ → Bool
begins_with_code report = report == 0x04 || report == 0x06

-- these bytes, if they are codes with their status and nothing else: four bytes of each
abbrev pub whole_records : List ℕ → List ℕ
whole_records bytes = if length bytes % 4 == 0 then bytes else []

-- the code with its status that these bytes begin with, if they have so many
abbrev pub first_record : List ℕ → List ℕ
first_record bytes = if nat_le 4 (length bytes) then take 4 bytes else []

-- the codes with their status behind the identifier of a report
abbrev pub records_of_report : ℕ → List ℕ → List ℕ
records_of_report report rest =
    if lists_codes report then whole_records (drop 1 rest) else if begins_with_code report then first_record rest else []

-- the trouble codes of a positive response to ReadDTCInformation, each of three bytes and a fourth one, its status
abbrev pub trouble_records : List ℕ → List ℕ
trouble_records (first ∷ report ∷ rest) = if first == 0x59 then records_of_report report rest else []
trouble_records shorter = []
