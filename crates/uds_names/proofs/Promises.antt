-- The proofs of the public laws, each under the name of its statement in specs/, for the crates above to cite. Nothing
-- else of proofs/ is for them.
pub use Rattle.uds_names.proofs.PlainNames.{names_are_plain}
pub use Rattle.uds_names.proofs.TroubleCodeLemmas.{trouble_codes_are_plain, trouble_code_is_read_back, trouble_records_are_whole}
