-- The proofs of public laws, under the names of their statements in specs/, for the crates above to cite. Nothing else
-- of proofs/ is for them.
pub use Rattle.uds_find.proofs.Counting.{functional_is_identifier}
pub use Rattle.uds_find.proofs.Needing.{asking_is_kept, credit_has_asking, need_has_kept, tester_is_another}
