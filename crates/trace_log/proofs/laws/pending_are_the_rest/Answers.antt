use Rattle.trace_log.proofs.ReadAgain.{pending_are_the_rest}
use Rattle.trace_log.proofs.laws.pending_are_the_rest.Goals as goal

pub returns : goal.returns
returns c = pending_are_the_rest
