-- Devices of proof, apart from the definitions that the promises are made of.
pub mod Flushed
pub mod Pairs
pub mod Sinks
