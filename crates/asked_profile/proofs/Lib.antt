pub mod Told
mod NamedUnits
pub mod Promises
