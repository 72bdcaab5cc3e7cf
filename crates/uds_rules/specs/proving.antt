pub mod Bits
pub mod Padded
pub mod Held
