-- The counts are those of the session.
use Rattle.trace_pair.proofs.page.CountsOfPart.say.Goals as goal

pub returns : goal.returns
returns g c = rw (c.summary-summary.ensures, c.counts.ensures, c.rows.ensures, c.first_time.ensures, c.last_time.ensures) at c.say.ensures
