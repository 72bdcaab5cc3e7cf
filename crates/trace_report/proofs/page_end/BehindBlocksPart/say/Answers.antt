-- The help is that of a page that has answers or has none.
use Rattle.trace_report.proofs.page_end.BehindBlocksPart.say.Goals as goal

pub returns : goal.returns
returns g c = rw (c.has_answers-answers.ensures) at c.say.ensures
