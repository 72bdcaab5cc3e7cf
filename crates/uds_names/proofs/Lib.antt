pub mod PlainNames
pub mod TroubleCodeLemmas
pub mod Promises
