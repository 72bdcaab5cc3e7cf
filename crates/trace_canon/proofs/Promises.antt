-- What a proof of a crate above cites: what a frame is to either direction, when a log needs memory to be collected,
-- and what a call over devices did and answers, where these lie in memory. Nothing else of proofs/ is for them.

-- ---- frames and messages

-- a frame of this line, time, channel and content
pub use Rattle.trace_canon.proofs.Sides.{entry_at}
-- what a frame that a side sends to the other alone is to its own receptions
pub use Rattle.trace_canon.proofs.Sides.{role_own}
-- what it is to the other ones
pub use Rattle.trace_canon.proofs.Sides.{role_other}
-- what it does
pub use Rattle.trace_canon.proofs.Sides.{verdict_of_side}
-- a side is itself
pub use Rattle.trace_canon.proofs.Sides.{same_side}
-- a log whose meaning has an item needs memory to be collected
pub use Rattle.trace_canon.proofs.CompletedMessages.{collects_where_items}
-- ---- devices in memory

-- what was read of a log in memory agrees with it
pub use Rattle.trace_canon.proofs.GatheredTexts.{agrees_in_memory}
-- no read of memory fails
pub use Rattle.trace_canon.proofs.GatheredTexts.{reads_well}
-- where nothing was gathered before, what is gathered is what was taken
pub use Rattle.trace_canon.proofs.GatheredTexts.{taken_is_gathered}
-- a call that did this with its devices read this log in memory, and what it wrote was gathered there as this text
pub use Rattle.trace_canon.proofs.GatheredTexts.{ran_in_memory}
-- ---- answers in memory

-- what a call over devices answers of text and counts, and of a fault, holds of what was gathered
pub use Rattle.trace_canon.proofs.GatheredTexts.{gathered}
-- what a run in memory of a command that is not strict answers: all that it says of the log, or why it can't be read
pub use Rattle.trace_canon.proofs.InMemories.{said_in_memory}
