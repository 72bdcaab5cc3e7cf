-- The words are by the tests of the summary that the definitions name.
use Rattle.trace_report.proofs.reasons.MeaningWordsPart.say.Goals as goal

pub returns : goal.returns
returns g c = rw (c.is_partial.ensures, c.lacks_line_feed.ensures, c.is_clean.ensures) at c.say.ensures
