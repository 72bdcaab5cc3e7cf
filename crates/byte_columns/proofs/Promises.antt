-- The proofs of the public laws, each under the name of its statement in specs/, for the crates above to cite. Nothing
-- else of proofs/ is for them.
pub use Rattle.byte_columns.proofs.BothMessages.{columns_have_both_messages, equal_lengths_pair_by_place, none_differs_in_the_same}
pub use Rattle.byte_columns.proofs.LineNumbers.{lines_stand_once}
pub use Rattle.byte_columns.proofs.CommonEnds.{common_ends_stand_together}
pub use Rattle.byte_columns.proofs.PutIn.{only_put_in}
pub use Rattle.byte_columns.proofs.LineColumns.{lines_have_the_columns}
pub use Rattle.byte_columns.proofs.StretchKinds.{stretches_are_of_one_kind}
