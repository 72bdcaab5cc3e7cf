use Rattle.trace_log.proofs.ReadAs.{reading_is_there, reading_is_one}
use Rattle.trace_log.proofs.laws.reading_is_one.Goals as goal

pub returns-clause-there : goal.returns-clause-there
returns-clause-there c = reading_is_there

pub returns-clause-one : goal.returns-clause-one
returns-clause-one c = reading_is_one
