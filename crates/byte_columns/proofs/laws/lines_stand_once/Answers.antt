use Rattle.byte_columns.proofs.Promises.{lines_stand_once}
use Rattle.byte_columns.proofs.laws.lines_stand_once.Goals as goal

pub returns : goal.returns
returns c = lines_stand_once
