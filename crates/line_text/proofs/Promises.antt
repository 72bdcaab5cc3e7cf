-- The proofs of the public laws, each under the name of its statement in specs/, for the crates above to cite. Nothing
-- else of proofs/ is for them.
pub use Rattle.line_text.proofs.Printable.{name_writes_no_control, clipped_writes_no_control, as_written_writes_no_control}
