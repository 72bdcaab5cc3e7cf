-- The proofs of the public laws, each under the name of its statement in specs/, for the crates above to cite. Nothing
-- else of proofs/ is for them.
pub use Rattle.trace_difference.proofs.Leading.{hunks_lead_to_the_right}
pub use Rattle.trace_difference.proofs.EqualSessions.{nothing_is_written_of_equal_sessions}
pub use Rattle.trace_difference.proofs.ListedLines.{listed_lines_are_the_list}
