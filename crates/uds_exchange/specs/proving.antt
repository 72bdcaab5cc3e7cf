-- Devices of proof, apart from the definitions that the promises are made of.
pub mod OpenExchange
pub mod Steps
pub mod Judging
pub mod ItemNumbers
pub mod Becoming
pub mod Pairing
pub mod Ordering
pub mod Deciding
pub mod Blocks
pub mod KeptItems
pub mod HeldMessages
