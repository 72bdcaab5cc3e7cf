use Rattle.shown_rows.proofs.Promises.{changes_have_each_row}
use Rattle.shown_rows.proofs.laws.changes_have_each_row.Goals as goal

pub returns : goal.returns
returns c = changes_have_each_row
