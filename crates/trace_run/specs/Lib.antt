pub mod Script
pub mod Seen
pub mod Stopping
pub mod AnswersAndWrites
pub mod Ran
pub mod Spoken
pub mod Printed
pub mod proving
