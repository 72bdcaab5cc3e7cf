use Rattle.byte_columns.proofs.Promises.{none_differs_in_the_same}
use Rattle.byte_columns.proofs.laws.none_differs_in_the_same.Goals as goal

pub returns : goal.returns
returns c = none_differs_in_the_same
