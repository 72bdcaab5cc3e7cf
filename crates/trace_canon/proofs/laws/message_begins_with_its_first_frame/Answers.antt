-- Both are lemmas on the first frame of a message.
use Rattle.trace_canon.proofs.FirstFrames.{begins_with_its_reception, begins_with_its_frame}
use Rattle.trace_canon.proofs.laws.message_begins_with_its_first_frame.Goals as goal

pub returns : goal.returns
returns c = record { several = begins_with_its_reception; single = begins_with_its_frame }
