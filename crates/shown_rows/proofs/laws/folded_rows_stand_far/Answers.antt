use Rattle.shown_rows.proofs.Promises.{folded_rows_stand_far}
use Rattle.shown_rows.proofs.laws.folded_rows_stand_far.Goals as goal

pub returns : goal.returns
returns c = folded_rows_stand_far
