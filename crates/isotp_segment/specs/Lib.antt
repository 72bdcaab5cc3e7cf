pub mod CanonicalFrames
pub mod FullFrames
pub mod Timed
pub mod Laws
pub mod proving
