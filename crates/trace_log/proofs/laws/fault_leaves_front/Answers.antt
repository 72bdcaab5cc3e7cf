use Rattle.trace_log.proofs.Fitting.{fault_leaves_front}
use Rattle.trace_log.proofs.laws.fault_leaves_front.Goals as goal

pub returns : goal.returns
returns c = fault_leaves_front
