use Rattle.isotp_receive.proofs.FrameLaws.{certificate}
use Rattle.isotp_receive.proofs.laws.clean_trace_is_a_recording.Goals as goal

pub returns : goal.returns
returns c = record { certificate = certificate }
