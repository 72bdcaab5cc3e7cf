pub mod Waited
pub mod Slowest
pub mod Laws
pub mod Longer
pub mod LongerLaws
