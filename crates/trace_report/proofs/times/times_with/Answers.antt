-- The first time stays, and the last one is that of the frame.
use Rattle.std.proofs.Common.{sym, ◌∙◌}
use Rattle.trace_report.proofs.HowKept.{times_begin, times_go_on}
use Rattle.trace_report.proofs.times.times_with.Goals as goal

pub returns-in-Some : goal.returns-in-Some
returns-in-Some c = λ T e times micros. times_go_on T e c.in-Some.times c.args.micros (sym c.in-Some.is ∙ times) micros

pub returns-in-None : goal.returns-in-None
returns-in-None c = λ T e times micros. times_begin T e c.args.micros (sym c.in-None.is ∙ times) micros
