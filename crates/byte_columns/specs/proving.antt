-- Devices of proof.
pub mod BytesBefore
pub mod Stretches
