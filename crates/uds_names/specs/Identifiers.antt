-- The names of data identifiers (ISO 14229-1, Annex C.1) and of routines (Annex F.1).
use Rattle.std.specs.Prelude.{ℕ, List, [], ◌∷◌, Option, Some, codes, if◌then◌else◌}
use Rattle.uds_names.specs.Names.{Named, named, name_in, is_within}

-- the data identifiers that have a name of their own, without the word DataIdentifier, with which each ends in the
-- standard
abbrev pub data_identifiers : List Named
data_identifiers =
    named 0xF180 (codes "bootSoftwareIdentification")
    ∷ named 0xF181 (codes "applicationSoftwareIdentification")
    ∷ named 0xF182 (codes "applicationDataIdentification")
    ∷ named 0xF183 (codes "bootSoftwareFingerprint")
    ∷ named 0xF184 (codes "applicationSoftwareFingerprint")
    ∷ named 0xF185 (codes "applicationDataFingerprint")
    ∷ named 0xF186 (codes "activeDiagnosticSession")
    ∷ named 0xF187 (codes "vehicleManufacturerSparePartNumber")
    ∷ named 0xF188 (codes "vehicleManufacturerECUSoftwareNumber")
    ∷ named 0xF189 (codes "vehicleManufacturerECUSoftwareVersionNumber")
    ∷ named 0xF18A (codes "systemSupplierIdentifier")
    ∷ named 0xF18B (codes "ECUManufacturingDate")
    ∷ named 0xF18C (codes "ECUSerialNumber")
    ∷ named 0xF18D (codes "supportedFunctionalUnits")
    ∷ named 0xF18E (codes "vehicleManufacturerKitAssemblyPartNumber")
    ∷ named 0xF190 (codes "VIN")
    ∷ named 0xF191 (codes "vehicleManufacturerECUHardwareNumber")
    ∷ named 0xF192 (codes "systemSupplierECUHardwareNumber")
    ∷ named 0xF193 (codes "systemSupplierECUHardwareVersionNumber")
    ∷ named 0xF194 (codes "systemSupplierECUSoftwareNumber")
    ∷ named 0xF195 (codes "systemSupplierECUSoftwareVersionNumber")
    ∷ named 0xF196 (codes "exhaustRegulationOrTypeApprovalNumber")
    ∷ named 0xF197 (codes "systemNameOrEngineType")
    ∷ named 0xF198 (codes "repairShopCodeOrTesterSerialNumber")
    ∷ named 0xF199 (codes "programmingDate")
    ∷ named 0xF19A (codes "calibrationRepairShopCodeOrCalibrationEquipmentSerialNumber")
    ∷ named 0xF19B (codes "calibrationDate")
    ∷ named 0xF19C (codes "calibrationEquipmentSoftwareNumber")
    ∷ named 0xF19D (codes "ECUInstallationDate")
    ∷ named 0xF19E (codes "ODXFile")
    ∷ named 0xF19F (codes "entity")
    ∷ []

-- the name of a data identifier: its own, or that of the range in which it stands
abbrev pub data_identifier_name : ℕ → Option (List ℕ)
data_identifier_name identifier =
    if is_within 0xF200 0xF2FF identifier then Some (codes "periodicDataIdentifier")
    else if is_within 0xF300 0xF3FF identifier then Some (codes "dynamicallyDefinedDataIdentifier")
    else if is_within 0xF400 0xF4FF identifier then Some (codes "OBDDataIdentifier")
    else if is_within 0xF600 0xF6FF identifier then Some (codes "OBDMonitorDataIdentifier")
    else if is_within 0xF800 0xF8FF identifier then Some (codes "OBDInfoTypeDataIdentifier")
    else name_in data_identifiers identifier

-- the routines
abbrev pub routines : List Named
routines =
    named 0xE200 (codes "deployLoopRoutine")
    ∷ named 0xFF00 (codes "eraseMemory")
    ∷ named 0xFF01 (codes "checkProgrammingDependencies")
    ∷ []

-- the name of a routine
abbrev pub routine_name : ℕ → Option (List ℕ)
routine_name identifier = name_in routines identifier
