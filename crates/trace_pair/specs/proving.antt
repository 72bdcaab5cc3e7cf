-- Devices of proof.
pub mod Marks
pub mod Beside
pub mod Changing
pub mod Losing
pub mod Standings
