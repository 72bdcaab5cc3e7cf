pub mod Untold
pub mod Promises
