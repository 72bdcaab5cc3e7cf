-- The proofs of the public laws, each under the name of its statement in specs/, for the crates above to cite. Nothing
-- else of proofs/ is for them.
pub use Rattle.calendar.proofs.OneDate.{number_is_of_one_date}
