-- The names of services that are none of UDS: those of OBD, and those of KWP2000 that UDS dropped. Where UDS has given
-- an identifier of KWP2000 to another service, the table has none for it.
use Rattle.std.specs.Prelude.{ℕ, List, [], ◌∷◌, Option, codes}
use Rattle.uds_names.specs.Names.{Named, named, name_in}

-- the ten services of OBD, by their titles (ISO 15031-5 and SAE J1979, services 01 to 0A)
abbrev pub obd_services : List Named
obd_services =
    named 0x01 (codes "Request current powertrain diagnostic data")
    ∷ named 0x02 (codes "Request powertrain freeze frame data")
    ∷ named 0x03 (codes "Request emission-related diagnostic trouble codes")
    ∷ named 0x04 (codes "Clear/reset emission-related diagnostic information")
    ∷ named 0x05 (codes "Request oxygen sensor monitoring test results")
    ∷ named 0x06 (codes "Request on-board monitoring test results for specific monitored systems")
    ∷ named 0x07 (codes "Request emission-related diagnostic trouble codes detected during current or last completed driving cycle")
    ∷ named 0x08 (codes "Request control of on-board system, test or component")
    ∷ named 0x09 (codes "Request vehicle information")
    ∷ named 0x0A (codes "Request emission-related diagnostic trouble codes with permanent status")
    ∷ []

-- the services of KWP2000 that UDS dropped (ISO 14230-3: stored data transmission 12 to 18, diagnostic management 1A
-- and 20, data transmission 21, 26 and 3B, input/output control 30, remote activation of routine 32 to 3A; ISO 14230-2:
-- 81 and 82)
abbrev pub kwp_services : List Named
kwp_services =
    named 0x12 (codes "readFreezeFrameData")
    ∷ named 0x13 (codes "readDiagnosticTroubleCodes")
    ∷ named 0x17 (codes "readStatusOfDiagnosticTroubleCodes")
    ∷ named 0x18 (codes "readDiagnosticTroubleCodesByStatus")
    ∷ named 0x1A (codes "readEcuIdentification")
    ∷ named 0x20 (codes "stopDiagnosticSession")
    ∷ named 0x21 (codes "readDataByLocalIdentifier")
    ∷ named 0x26 (codes "setDataRates")
    ∷ named 0x30 (codes "inputOutputControlByLocalIdentifier")
    ∷ named 0x32 (codes "stopRoutineByLocalIdentifier")
    ∷ named 0x33 (codes "requestRoutineResultsByLocalIdentifier")
    ∷ named 0x39 (codes "stopRoutineByAddress")
    ∷ named 0x3A (codes "requestRoutineResultsByAddress")
    ∷ named 0x3B (codes "writeDataByLocalIdentifier")
    ∷ named 0x81 (codes "startCommunication")
    ∷ named 0x82 (codes "stopCommunication")
    ∷ []

-- the title of a service of OBD
abbrev pub obd_service_name : ℕ → Option (List ℕ)
obd_service_name service = name_in obd_services service

-- the name of a service of KWP2000 that UDS dropped
abbrev pub kwp_service_name : ℕ → Option (List ℕ)
kwp_service_name service = name_in kwp_services service
