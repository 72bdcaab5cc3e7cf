-- A text that found room is gathered behind what was.
use Rattle.trace_run.proofs.Carryings.{gathered_more}
use Rattle.trace_run.proofs.sheet.Sheet.put_whole.Goals as goal

pub returns-else-not-try_append : goal.returns-else-not-try_append
returns-else-not-try_append g c = λ start said carries.
    gathered_more g.W.Target start c.args.target.now said c.args.text.now c.args.self.now c.try_append.new.self
    (c.try_append.ensures.took c.if-not-try_append.false) carries
