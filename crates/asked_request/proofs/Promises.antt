-- The proofs of the public laws, each under the name of its statement in specs/, for the crates above to cite. Nothing
-- else of proofs/ is for them.
pub use Rattle.asked_request.proofs.KeptRequests.{kept_is_enough, nothing_is_told_of_more}
