use Rattle.trace_difference.proofs.Promises.{nothing_is_written_of_equal_sessions}
use Rattle.trace_difference.proofs.laws.nothing_is_written_of_equal_sessions.Goals as goal

pub returns : goal.returns
returns c = nothing_is_written_of_equal_sessions
