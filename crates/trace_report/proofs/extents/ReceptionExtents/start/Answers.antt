-- Before the first frame nothing has begun, and no frame is counted.
use Rattle.trace_report.proofs.extents.ReceptionExtents.start.Goals as goal

pub returns : goal.returns
returns c = record { begun = c.start.ensures.begun; frames = record { tester = tt; unit = tt } }
