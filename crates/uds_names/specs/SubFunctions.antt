-- The names of sub-functions (ISO 14229-1, in the section of each service its table of sub-function values). They are
-- those of the edition of 2020, but where another year is told.
use Rattle.std.specs.Prelude.{ℕ, ◌==◌, ◌%◌, List, [], ◌∷◌, Option, Some, None, codes, if◌then◌else◌}
use Rattle.uds_names.specs.Names.{Named, named, name_in, is_within}

-- DiagnosticSessionControl: diagnosticSessionType
abbrev pub sessions : List Named
sessions =
    named 0x01 (codes "defaultSession")
    ∷ named 0x02 (codes "programmingSession")
    ∷ named 0x03 (codes "extendedDiagnosticSession")
    ∷ named 0x04 (codes "safetySystemDiagnosticSession")
    ∷ []

-- ECUReset: resetType
abbrev pub resets : List Named
resets =
    named 0x01 (codes "hardReset")
    ∷ named 0x02 (codes "keyOffOnReset")
    ∷ named 0x03 (codes "softReset")
    ∷ named 0x04 (codes "enableRapidPowerShutDown")
    ∷ named 0x05 (codes "disableRapidPowerShutDown")
    ∷ []

-- ReadDTCInformation: reportType. 0F to 13 are of the edition of 2013, and withdrawn in that of 2020; 56 is of that of
-- 2020.
abbrev pub reports : List Named
reports =
    named 0x01 (codes "reportNumberOfDTCByStatusMask")
    ∷ named 0x02 (codes "reportDTCByStatusMask")
    ∷ named 0x03 (codes "reportDTCSnapshotIdentification")
    ∷ named 0x04 (codes "reportDTCSnapshotRecordByDTCNumber")
    ∷ named 0x05 (codes "reportDTCStoredDataByRecordNumber")
    ∷ named 0x06 (codes "reportDTCExtDataRecordByDTCNumber")
    ∷ named 0x07 (codes "reportNumberOfDTCBySeverityMaskRecord")
    ∷ named 0x08 (codes "reportDTCBySeverityMaskRecord")
    ∷ named 0x09 (codes "reportSeverityInformationOfDTC")
    ∷ named 0x0A (codes "reportSupportedDTC")
    ∷ named 0x0B (codes "reportFirstTestFailedDTC")
    ∷ named 0x0C (codes "reportFirstConfirmedDTC")
    ∷ named 0x0D (codes "reportMostRecentTestFailedDTC")
    ∷ named 0x0E (codes "reportMostRecentConfirmedDTC")
    ∷ named 0x0F (codes "reportMirrorMemoryDTCByStatusMask")
    ∷ named 0x10 (codes "reportMirrorMemoryDTCExtDataRecordByDTCNumber")
    ∷ named 0x11 (codes "reportNumberOfMirrorMemoryDTCByStatusMask")
    ∷ named 0x12 (codes "reportNumberOfEmissionsOBDDTCByStatusMask")
    ∷ named 0x13 (codes "reportEmissionsOBDDTCByStatusMask")
    ∷ named 0x14 (codes "reportDTCFaultDetectionCounter")
    ∷ named 0x15 (codes "reportDTCWithPermanentStatus")
    ∷ named 0x16 (codes "reportDTCExtDataRecordByRecordNumber")
    ∷ named 0x17 (codes "reportUserDefMemoryDTCByStatusMask")
    ∷ named 0x18 (codes "reportUserDefMemoryDTCSnapshotRecordByDTCNumber")
    ∷ named 0x19 (codes "reportUserDefMemoryDTCExtDataRecordByDTCNumber")
    ∷ named 0x42 (codes "reportWWHOBDDTCByMaskRecord")
    ∷ named 0x55 (codes "reportWWHOBDDTCWithPermanentStatus")
    ∷ named 0x56 (codes "reportDTCInformationByDTCReadinessGroupIdentifier")
    ∷ []

-- CommunicationControl: controlType. 04 and 05 are of the edition of 2013 and of later ones.
abbrev pub communications : List Named
communications =
    named 0x00 (codes "enableRxAndTx")
    ∷ named 0x01 (codes "enableRxAndDisableTx")
    ∷ named 0x02 (codes "disableRxAndEnableTx")
    ∷ named 0x03 (codes "disableRxAndTx")
    ∷ named 0x04 (codes "enableRxAndDisableTxWithEnhancedAddressInformation")
    ∷ named 0x05 (codes "enableRxAndTxWithEnhancedAddressInformation")
    ∷ []

-- RoutineControl: routineControlType
abbrev pub routine_controls : List Named
routine_controls =
    named 0x01 (codes "startRoutine")
    ∷ named 0x02 (codes "stopRoutine")
    ∷ named 0x03 (codes "requestRoutineResults")
    ∷ []

-- TesterPresent: zeroSubFunction
abbrev pub presences : List Named
presences = named 0x00 (codes "zeroSubFunction") ∷ []

-- ControlDTCSetting: DTCSettingType
abbrev pub settings : List Named
settings = named 0x01 (codes "on") ∷ named 0x02 (codes "off") ∷ []

-- LinkControl: linkControlType. The names are of the edition of 2013 and of later ones.
abbrev pub links : List Named
links =
    named 0x01 (codes "verifyModeTransitionWithFixedParameter")
    ∷ named 0x02 (codes "verifyModeTransitionWithSpecificParameter")
    ∷ named 0x03 (codes "transitionMode")
    ∷ []

-- SecurityAccess: securityAccessType. Of the levels that the manufacturer of the vehicle has, 01 to 42, the odd ones
-- ask for a seed, and the even ones send the key.
abbrev pub security_name : ℕ → Option (List ℕ)
security_name level =
    if is_within 0x01 0x42 level then (if level % 2 == 1 then Some (codes "requestSeed") else Some (codes "sendKey")) else None

-- the name of a sub-function of a service, where this is its number
abbrev pub name_by_number : ℕ → ℕ → Option (List ℕ)
name_by_number service number =
    if service == 0x10 then name_in sessions number
    else if service == 0x11 then name_in resets number
    else if service == 0x19 then name_in reports number
    else if service == 0x27 then security_name number
    else if service == 0x28 then name_in communications number
    else if service == 0x31 then name_in routine_controls number
    else if service == 0x3E then name_in presences number
    else if service == 0x85 then name_in settings number
    else if service == 0x87 then name_in links number
    else None

-- the name of a sub-function of a service, by its byte: its number is the low seven bits, whether bit 7 suppresses the
-- positive response or not
abbrev pub sub_function_name : ℕ → ℕ → Option (List ℕ)
sub_function_name service sub_function = name_by_number service (sub_function % 0x80)
