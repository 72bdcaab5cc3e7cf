-- The proofs of the public laws, each under the name of its statement in specs/, for the crates above to cite. Nothing
-- else of proofs/ is for them.
pub use Rattle.uds_rules.proofs.Unders.{under_goes_on, left_out_goes_on, left_out_are_the_rest, no_rules_keep_all, under_twice, what_is_left_stays, what_stays_is_left}
pub use Rattle.uds_rules.proofs.Apart.{rule_speaks_alone, apart_shares_no_message, clash_shares_message}
pub use Rattle.uds_rules.proofs.SameKinds.{mask_keeps_kind, no_byte_is_added}
pub use Rattle.uds_rules.proofs.ByPlaces.{masked_by_places, no_byte_is_made_up}
pub use Rattle.uds_rules.proofs.ReadBack.{prefix_is_read_back, pattern_is_read_back, read_as_spelled}
pub use Rattle.uds_rules.proofs.FirstBytes.{unspoken_stays}
-- neither of two tests passes where none of both does
pub use Rattle.uds_rules.proofs.FirstBytes.{both_false}
pub use Rattle.uds_rules.proofs.KeptBytes.{sub_function_stays, negative_response_stays, tester_present_stays}
pub use Rattle.uds_rules.proofs.LegalRules.{spelled_drop_is_rule, spelled_mask_is_rule, none_are_rules, added_are_rules}
