pub mod Layout
pub mod Fault
pub mod Reading
pub mod Laws
