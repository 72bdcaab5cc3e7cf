-- The proofs of the public laws, each under the name of its statement in specs/, for the crates above to cite. Nothing
-- else of proofs/ is for them.
pub use Rattle.slow_answers.proofs.Order.{slowest_come_first, equal_ones_stay_in_order}
pub use Rattle.slow_answers.proofs.FoundLonger.{never_longer_both_ways, slowest_is_one_of_them, longer_are_found_one_by_one}
