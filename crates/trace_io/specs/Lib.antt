pub mod Stream
pub mod Counted
pub mod Faulty
pub mod Written
