pub mod Quoted
pub mod Clipped
pub mod Laws
pub mod proving
