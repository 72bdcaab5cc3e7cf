-- The count is that of the frames of each message of this length.
use Rattle.std.proofs.Common.{rules}
use Rattle.isotp_segment.proofs.Frames.{count_of_frames}
use Rattle.isotp_segment.proofs.frame.frame_count.Goals as goal

pub returns-then-len-le-SINGLE_LIMIT-clause-frames : goal.returns-then-len-le-SINGLE_LIMIT-clause-frames
returns-then-len-le-SINGLE_LIMIT-clause-frames c = count_of_frames _ c.args.len _ c.requires.some c.requires.limit (search rules)

pub returns-clause-frames : goal.returns-clause-frames
returns-clause-frames c = count_of_frames _ c.args.len _ c.requires.some c.requires.limit (search rules)
