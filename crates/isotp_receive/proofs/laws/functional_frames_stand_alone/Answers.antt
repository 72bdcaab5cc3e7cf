use Rattle.isotp_receive.proofs.FunctionalFrames as functional
use Rattle.isotp_receive.proofs.laws.functional_frames_stand_alone.Goals as goal

pub returns : goal.returns
returns c = functional.functional_frames_stand_alone
