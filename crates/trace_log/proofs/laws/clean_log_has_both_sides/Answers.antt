use Rattle.trace_log.proofs.Summaries.{clean_log_has_both_sides}
use Rattle.trace_log.proofs.laws.clean_log_has_both_sides.Goals as goal

pub returns : goal.returns
returns c = clean_log_has_both_sides
