-- What a proof of a crate above cites: the laws of this crate, each under the name of its statement, and what a target took.
pub use Rattle.trace_io.proofs.Agreements.{told_agrees as agrees_with_told}
pub use Rattle.trace_io.proofs.Takings.{took_no_byte, took_more}
