-- The reasons are by the test of the summary that the definitions name.
use Rattle.trace_report.proofs.reasons.UncleanReasonsPart.say.Goals as goal

pub returns : goal.returns
returns g c = rw (c.is_clean.ensures) at c.say.ensures
