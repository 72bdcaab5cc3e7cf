use Rattle.trace_log.proofs.ReadAgain.{recording_has_canonical_log}
use Rattle.trace_log.proofs.laws.recording_has_canonical_log.Goals as goal

pub returns : goal.returns
returns c = recording_has_canonical_log
