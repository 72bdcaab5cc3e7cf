use Rattle.shown_rows.proofs.Promises.{shown_rows_stand_in_hunks}
use Rattle.shown_rows.proofs.laws.shown_rows_stand_in_hunks.Goals as goal

pub returns : goal.returns
returns c = shown_rows_stand_in_hunks
