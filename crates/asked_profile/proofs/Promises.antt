-- The proofs of the public laws, each under the name of its statement in specs/, for the crates above to cite. Nothing
-- else of proofs/ is for them.
pub use Rattle.asked_profile.proofs.NamedUnits.{chosen_is_named, named_is_chosen, none_is_without_units}
