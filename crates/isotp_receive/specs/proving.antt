-- Devices of proof, apart from the definitions that the promises are made of.
pub mod Machine
pub mod Kept
pub mod ReceptionLending
pub mod PairLending
