-- What is picked from the ends of a short message is its frame, and the only one.
use Rattle.std.proofs.Common.{arith}
use Rattle.isotp_receive.specs.declared.TheConstants.{MESSAGE_LIMIT}
use Rattle.isotp_segment.proofs.SingleFrames.{places_are_lanes, picked_is_padded, picked_is_alone}
use Rattle.isotp_segment.proofs.single.single_frame.Goals as goal

pub swizzle : goal.swizzle
swizzle c = places_are_lanes c.args.message.now c.requires.single

pub returns-clause-value : goal.returns-clause-value
returns-clause-value c = rw c.ends.ensures (picked_is_padded c.args.message.now c.requires.some c.requires.single)

pub returns-clause-frames : goal.returns-clause-frames
returns-clause-frames c = λ direction.
    rw c.ends.ensures (picked_is_alone MESSAGE_LIMIT direction c.args.message.now c.requires.some c.requires.single (omega arith))
