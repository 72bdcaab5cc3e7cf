use Rattle.byte_columns.proofs.Promises.{lines_have_the_columns}
use Rattle.byte_columns.proofs.laws.lines_have_the_columns.Goals as goal

pub returns : goal.returns
returns c = lines_have_the_columns
