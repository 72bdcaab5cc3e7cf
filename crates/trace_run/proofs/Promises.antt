-- Lemmas of runs, for the proofs of the crates above.
pub use Rattle.trace_run.proofs.SaidFronts.{front_of_whole}
pub use Rattle.trace_run.proofs.LenientRuns.{certifies, unread_for}
pub use Rattle.trace_run.proofs.QuietRuns.{SaysNothing, never_write}
pub use Rattle.trace_run.proofs.SeenMessages.{CompletesJudged, completes_judged, completes_none, messages_next}
pub use Rattle.trace_run.proofs.SeenMessages.{tells_no_message}
pub use Rattle.trace_run.proofs.SpokenCounts.{few_messages, spoken_next}
