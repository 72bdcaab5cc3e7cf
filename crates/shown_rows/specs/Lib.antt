pub mod Rows
pub mod Hunks
pub mod Folds
pub mod Changes
pub mod Laws
