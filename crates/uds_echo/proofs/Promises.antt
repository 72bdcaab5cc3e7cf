-- The proofs of the public laws, each under the name of its statement in specs/, for the crates above to cite. Nothing
-- else of proofs/ is for them.
pub use Rattle.uds_echo.proofs.Untold.{repeated_is_not_told, asked_is_not_told, masked_is_not_told, negative_is_not_told, no_other_service_is_told}
