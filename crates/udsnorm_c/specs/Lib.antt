pub mod Spelled
pub mod Given
pub mod Answered
pub mod Laws
