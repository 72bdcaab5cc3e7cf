use Rattle.trace_log.proofs.ReadLines.{lines_read_are_there, lines_read_are_one}
use Rattle.trace_log.proofs.laws.lines_read_are_one.Goals as goal

pub returns-clause-there : goal.returns-clause-there
returns-clause-there c = lines_read_are_there

pub returns-clause-one : goal.returns-clause-one
returns-clause-one c = lines_read_are_one
