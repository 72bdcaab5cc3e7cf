use Rattle.trace_log.proofs.RuledCounts.{clean_knows_no_rules, counts_know_no_rules}
use Rattle.trace_log.proofs.laws.counts_know_no_rules.Goals as goal

pub returns : goal.returns
returns c = record { counts = counts_know_no_rules; clean = clean_knows_no_rules }
