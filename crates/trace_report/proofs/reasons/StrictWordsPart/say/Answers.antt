-- The words are by the test of the summary that the definitions name.
use Rattle.trace_report.proofs.reasons.StrictWordsPart.say.Goals as goal

pub returns : goal.returns
returns g c = rw (c.lacks_line_feed.ensures) at c.say.ensures
