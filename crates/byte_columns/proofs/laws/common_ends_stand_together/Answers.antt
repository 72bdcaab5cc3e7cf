use Rattle.byte_columns.proofs.Promises.{common_ends_stand_together}
use Rattle.byte_columns.proofs.laws.common_ends_stand_together.Goals as goal

pub returns : goal.returns
returns c = common_ends_stand_together
