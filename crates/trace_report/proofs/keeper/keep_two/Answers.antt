-- What both logs say is that of each.
use Rattle.trace_report.proofs.keeper.keep_two.Goals as goal

pub returns-clause-answer : goal.returns-clause-answer
returns-clause-answer g c = λ one other left right.
    rw (c.of.ensures.left, c.of.ensures.right) (c.in-Ok.ensures.answer one left, c.in-Ok-keep_session.ensures.answer other right)
