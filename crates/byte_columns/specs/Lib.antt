pub mod Columns
pub mod Lines
pub mod Laws
pub mod proving
