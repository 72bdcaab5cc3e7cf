-- Three texts that found room are gathered behind what was, as one.
use Rattle.std.proofs.Common.{◌++◌}
use Rattle.trace_run.proofs.Carryings.{gathered_more}
use Rattle.trace_run.proofs.sheet.Sheet.put_three.Goals as goal

pub returns-else-not-try_append_three : goal.returns-else-not-try_append_three
returns-else-not-try_append_three g c = λ start said carries.
    gathered_more g.W.Target start c.args.target.now said (c.args.first.now ++ c.args.second.now ++ c.args.third.now)
    c.args.self.now c.try_append_three.new.self
    (c.try_append_three.ensures.took c.if-not-try_append_three.false) carries
