use Rattle.shown_rows.proofs.Promises.{shown_rows_stand_near_changes}
use Rattle.shown_rows.proofs.laws.shown_rows_stand_near_changes.Goals as goal

pub returns : goal.returns
returns c = shown_rows_stand_near_changes
