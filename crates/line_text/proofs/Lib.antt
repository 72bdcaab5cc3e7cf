mod Printable
pub mod Promises
