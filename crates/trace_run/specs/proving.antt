-- Devices of proof, apart from the definitions that the promises are made of.
pub mod Gathering
pub mod Carrying
pub mod SheetSinks
pub mod Ruling
pub mod Speaking
pub mod Telling
pub mod Receiving
pub mod Ending
