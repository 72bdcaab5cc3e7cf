pub mod Configured
pub mod Built
pub mod Taken
pub mod AskedHints
