pub mod Results
pub mod WrittenFronts
pub mod Carryings
pub mod SeenMessages
pub mod ToldFrames
pub mod DeviceFaults
pub mod StoppedLines
pub mod Runs
pub mod SaidFronts
pub mod RefusedRuns
pub mod OversizeRuns
pub mod MemoryRuns
pub mod BrokenRuns
pub mod FailedRuns
pub mod EndedRuns
pub mod LenientRuns
pub mod Printings
mod QuietRuns
mod CountedRules
mod SpokenCounts
-- what the crates above may cite
pub mod Promises
