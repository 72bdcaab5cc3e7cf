use Rattle.trace_log.proofs.Summaries.{frames_are_of_two_sides}
use Rattle.trace_log.proofs.laws.frames_are_of_two_sides.Goals as goal

pub returns : goal.returns
returns c = frames_are_of_two_sides
