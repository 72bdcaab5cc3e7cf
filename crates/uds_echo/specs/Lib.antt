pub mod Left
pub mod Repeated
pub mod Echo
pub mod Laws
