use Rattle.trace_log.proofs.Fitting.{fitting_is_longest}
use Rattle.trace_log.proofs.laws.fitting_is_longest.Goals as goal

pub returns : goal.returns
returns c = fitting_is_longest
