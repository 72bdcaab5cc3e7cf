-- Devices of proof.
pub mod Waiting
pub mod HunkOf
pub mod RowFront
