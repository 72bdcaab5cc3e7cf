-- Devices of proof, apart from the definitions that the promises are made of.
pub mod Reading
pub mod Receiving
pub mod Announcing
