-- Links lead to the row of what stands at the end where this is said.
use Rattle.trace_report.proofs.missing_rows.say_unfinished_row.Goals as goal

pub returns : goal.returns
returns g c = rw c.target_if.ensures at c.say.ensures
