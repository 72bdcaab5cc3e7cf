use Rattle.std.proofs.Common.{arith}
use Rattle.std.proofs.lemmas.Grind.{common_steps}
use Rattle.trace_io.proofs.endless.EndlessSource.read.Goals as goal
use Rattle.trace_io.proofs.Fronts.{one_more}

pub returns-clause-given : goal.returns-clause-given
returns-clause-given c =
    rw (← c.self.view_is) (one_more c.args.buf.now c.self.inside.byte c.self.inside.given (grind (arith, common_steps)))
