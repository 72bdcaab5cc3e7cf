use Rattle.isotp_receive.proofs.Delivered.{recording-delivers, recording-delivers-behind, delivers-at-last}
use Rattle.isotp_receive.proofs.FrameLaws.{by-frames}
use Rattle.isotp_receive.proofs.laws.recording_delivers.Goals as goal

pub returns : goal.returns
returns c = record { alone = recording-delivers; behind_any_trace = recording-delivers-behind; at_last_position = delivers-at-last; frames = by-frames }
