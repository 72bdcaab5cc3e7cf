pub mod Told
pub mod Files
pub mod Lines
