-- Eight bytes of the message with a control byte over the first are what the definition pads, where there is nothing to
-- pad.
use Rattle.std.proofs.Common.{arith, ◌∙◌, ap, drop, length}
use Rattle.isotp_segment.specs.CanonicalFrames.{padded, place_of}
use Rattle.isotp_segment.proofs.Padding.{full_frame_at}
use Rattle.isotp_segment.proofs.frame.full_frame.Goals as goal

pub returns-clause-value : goal.returns-clause-value
returns-clause-value c =
    full_frame_at _ _ _ c.args.message.now _ (grind (arith, c.place_of-place.ensures)) c.in_ok-frame.ensures.cases
    ∙ ap (λ control. padded control (drop (place_of (length c.args.message.now) c.args.number) c.args.message.now)) c.consecutive_control.ensures
