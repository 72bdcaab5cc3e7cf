pub mod Places
pub mod Order
pub mod FoundLonger
pub mod Promises
