use Rattle.byte_columns.proofs.Promises.{stretches_are_of_one_kind}
use Rattle.byte_columns.proofs.laws.stretches_are_of_one_kind.Goals as goal

pub returns : goal.returns
returns c = stretches_are_of_one_kind
