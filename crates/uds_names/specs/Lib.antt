pub mod Names
pub mod Services
pub mod SubFunctions
pub mod Identifiers
pub mod ResponseCodes
pub mod TroubleCodes
pub mod Laws
