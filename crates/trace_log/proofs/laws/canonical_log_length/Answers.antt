use Rattle.trace_log.proofs.ReadAgain.{canonical_log_length, canonical_log_length_by_sides}
use Rattle.trace_log.proofs.laws.canonical_log_length.Goals as goal

pub returns-clause-one : goal.returns-clause-one
returns-clause-one c = canonical_log_length

pub returns-clause-sides : goal.returns-clause-sides
returns-clause-sides c = canonical_log_length_by_sides
