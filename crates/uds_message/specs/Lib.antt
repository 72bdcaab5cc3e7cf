pub mod Tables
pub mod Message
pub mod Laws
