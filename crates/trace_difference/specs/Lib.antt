pub mod Lines
pub mod Labels
pub mod Unified
pub mod Objects
pub mod Written
pub mod InMemory
pub mod Laws
pub mod proving
