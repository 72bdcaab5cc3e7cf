pub mod Saying
pub mod Promises
