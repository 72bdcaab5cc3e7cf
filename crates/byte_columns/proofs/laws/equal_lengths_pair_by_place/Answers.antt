use Rattle.byte_columns.proofs.Promises.{equal_lengths_pair_by_place}
use Rattle.byte_columns.proofs.laws.equal_lengths_pair_by_place.Goals as goal

pub returns : goal.returns
returns c = equal_lengths_pair_by_place
