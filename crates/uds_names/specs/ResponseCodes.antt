-- The names of the response codes that the table of `uds_message` lacks (ISO 14229-1, Annex A.1). 34, 38 to 3A, 50 to
-- 5D and 94 are of the edition of 2020.
use Rattle.std.specs.Prelude.{ℕ, List, [], ◌∷◌, Option, Some, codes, if◌then◌else◌}
use Rattle.uds_names.specs.Names.{Named, named, name_in, is_within}

-- the response codes that have a name of their own
abbrev pub further_codes : List Named
further_codes =
    named 0x34 (codes "authenticationRequired")
    ∷ named 0x38 (codes "secureDataTransmissionRequired")
    ∷ named 0x39 (codes "secureDataTransmissionNotAllowed")
    ∷ named 0x3A (codes "secureDataVerificationFailed")
    ∷ named 0x50 (codes "certificateVerificationFailedInvalidTimePeriod")
    ∷ named 0x51 (codes "certificateVerificationFailedInvalidSignature")
    ∷ named 0x52 (codes "certificateVerificationFailedInvalidChainOfTrust")
    ∷ named 0x53 (codes "certificateVerificationFailedInvalidType")
    ∷ named 0x54 (codes "certificateVerificationFailedInvalidFormat")
    ∷ named 0x55 (codes "certificateVerificationFailedInvalidContent")
    ∷ named 0x56 (codes "certificateVerificationFailedInvalidScope")
    ∷ named 0x57 (codes "certificateVerificationFailedInvalidCertificate")
    ∷ named 0x58 (codes "ownershipVerificationFailed")
    ∷ named 0x59 (codes "challengeCalculationFailed")
    ∷ named 0x5A (codes "settingAccessRightsFailed")
    ∷ named 0x5B (codes "sessionKeyCreationDerivationFailed")
    ∷ named 0x5C (codes "configurationDataUsageFailed")
    ∷ named 0x5D (codes "deAuthenticationFailed")
    ∷ named 0x81 (codes "rpmTooHigh")
    ∷ named 0x82 (codes "rpmTooLow")
    ∷ named 0x83 (codes "engineIsRunning")
    ∷ named 0x84 (codes "engineIsNotRunning")
    ∷ named 0x85 (codes "engineRunTimeTooLow")
    ∷ named 0x86 (codes "temperatureTooHigh")
    ∷ named 0x87 (codes "temperatureTooLow")
    ∷ named 0x88 (codes "vehicleSpeedTooHigh")
    ∷ named 0x89 (codes "vehicleSpeedTooLow")
    ∷ named 0x8A (codes "throttlePedalTooHigh")
    ∷ named 0x8B (codes "throttlePedalTooLow")
    ∷ named 0x8C (codes "transmissionRangeNotInNeutral")
    ∷ named 0x8D (codes "transmissionRangeNotInGear")
    ∷ named 0x8F (codes "brakeSwitchNotClosed")
    ∷ named 0x90 (codes "shifterLeverNotInPark")
    ∷ named 0x91 (codes "torqueConverterClutchLocked")
    ∷ named 0x92 (codes "voltageTooHigh")
    ∷ named 0x93 (codes "voltageTooLow")
    ∷ named 0x94 (codes "resourceTemporarilyNotAvailable")
    ∷ []

-- the name of a response code that the table of `uds_message` lacks: its own, or that of the range in which it stands
abbrev pub response_code_name : ℕ → Option (List ℕ)
response_code_name code =
    if is_within 0x95 0xEF code then Some (codes "reservedForSpecificConditionsNotCorrect")
    else if is_within 0xF0 0xFE code then Some (codes "vehicleManufacturerSpecificConditionsNotCorrect")
    else name_in further_codes code
