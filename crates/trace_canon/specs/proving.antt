-- Devices of proof, apart from the definitions that the promises are made of.
pub mod Writing
pub mod Saying
pub mod CanonicalScript
pub mod Asking
pub mod MessageSaying
pub mod Watching
pub mod Measuring
pub mod SessionScript
pub mod Hearing
