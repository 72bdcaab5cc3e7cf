use Rattle.trace_log.proofs.ReadAgain.{clean_log_is_recording}
use Rattle.trace_log.proofs.laws.clean_log_is_recording.Goals as goal

pub returns : goal.returns
returns c = clean_log_is_recording
