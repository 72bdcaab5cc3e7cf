use Rattle.trace_log.proofs.Lowest.{bad_line_is_lowest, oversize_is_lowest}
use Rattle.trace_log.proofs.laws.first_thing_refuses.Goals as goal

pub returns-clause-bad_line : goal.returns-clause-bad_line
returns-clause-bad_line c = bad_line_is_lowest

pub returns-clause-oversize : goal.returns-clause-oversize
returns-clause-oversize c = oversize_is_lowest
