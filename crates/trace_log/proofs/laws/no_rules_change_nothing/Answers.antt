use Rattle.trace_log.proofs.ReadAgain.{no_rules_change_nothing}
use Rattle.trace_log.proofs.laws.no_rules_change_nothing.Goals as goal

pub returns : goal.returns
returns c = no_rules_change_nothing
