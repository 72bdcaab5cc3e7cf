-- The proofs of the public laws, each under the name of its statement in specs/, for the crates above to cite. Nothing
-- else of proofs/ is for them.
pub use Rattle.isotp_pdu.proofs.EveryFrame.{layout_is_read, fault_is_read, one_layout as at_most_one_layout, one_fault as at_most_one_fault, layout_or_fault, no_fault as layout_has_no_fault}
pub use Rattle.isotp_pdu.proofs.Sound.{layout_is_sound}
pub use Rattle.isotp_pdu.proofs.Announced.{first_length_means}
pub use Rattle.isotp_pdu.proofs.CarriedBytes.{carried_bytes_are_of_frame}
pub use Rattle.isotp_pdu.proofs.Lengths.{can_dl_few as can_dl_is_at_most_64}
