pub mod Days
pub mod NextDays
pub mod OneDate
pub mod Promises
