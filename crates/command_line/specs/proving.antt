-- Devices of proof, apart from the definitions that the promises are made of.
pub mod Rows
