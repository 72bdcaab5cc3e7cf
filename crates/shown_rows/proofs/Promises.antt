-- The proofs of the public laws, each under the name of its statement in specs/, for the crates above to cite. Nothing
-- else of proofs/ is for them.
pub use Rattle.shown_rows.proofs.Counted.{counts_add_up}
pub use Rattle.shown_rows.proofs.ShownRows.{shown_rows_stand_in_hunks}
pub use Rattle.shown_rows.proofs.EachChange.{changes_have_each_row}
pub use Rattle.shown_rows.proofs.ChangePlaces.{changes_stand_at_their_places}
pub use Rattle.shown_rows.proofs.NearChanges.{shown_rows_stand_near_changes}
pub use Rattle.shown_rows.proofs.HunkPlaces.{hunks_stand_at_their_places}
pub use Rattle.shown_rows.proofs.FoldPlaces.{folded_rows_stand_far}
