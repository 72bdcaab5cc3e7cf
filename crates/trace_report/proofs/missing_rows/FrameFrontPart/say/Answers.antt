-- Links lead to the row of a frame where this is said.
use Rattle.trace_report.proofs.missing_rows.FrameFrontPart.say.Goals as goal

pub returns : goal.returns
returns g c = rw c.target_if.ensures at c.say.ensures
