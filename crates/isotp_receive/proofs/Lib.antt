-- lists, numbers and tests
pub mod Products
pub mod Choices
pub mod Fronts
pub mod ListPositions
pub mod PositionLists
-- a frame, and what is known of it
pub mod Directions
pub mod Readings
pub mod Fits
-- what stands after one more frame, as the code keeps it
pub mod CountedFrames
pub mod FitTests
pub mod FullFrames
pub mod StandsAlone
pub mod OneMore
pub mod FunctionalFrames
pub mod BothDirections
pub mod Growths
-- what stands, and what is open by the positions of a trace
pub mod OpenLaws
pub mod References
pub mod ConsecutiveCounts
pub mod OpenPositions
pub mod CarriedBytes
pub mod BytesAtPlaces
pub mod SameMessage
pub mod StandingLaws
pub mod CapacityLaws
-- verdicts
pub mod Heard
pub mod HeardByRole
pub mod DeliversLaws
pub mod DeliveredMessages
pub mod FittedFrames
pub mod VerdictLaws
-- the messages of a trace
pub mod MessagesOfMore
pub mod Told
pub mod DeliveredBytes
pub mod EventCounts
-- recordings
pub mod OwnFrames
pub mod UnderWay
pub mod NextFrames
pub mod Carried
pub mod Delivered
pub mod FramesOf
-- clean traces
pub mod CleanFrames
pub mod Gathered
pub mod CleanSteps
pub mod CleanTraces
pub mod FrameLaws
-- what the crates above may cite
pub mod Promises
