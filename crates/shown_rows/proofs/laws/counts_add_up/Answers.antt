use Rattle.shown_rows.proofs.Promises.{counts_add_up}
use Rattle.shown_rows.proofs.laws.counts_add_up.Goals as goal

pub returns : goal.returns
returns c = counts_add_up
