-- Where a message begins and how many frames carry it is known by what stood before.
use Rattle.std.proofs.Common.{arith, ap, ◌∙◌}
use Rattle.isotp_receive.specs.EventSeen.{seen_event}
use Rattle.isotp_receive.specs.Verdict.{EventValue}
use Rattle.trace_report.proofs.FrameCounting.{frames_next, frames_known}
use Rattle.trace_report.proofs.extents.ReceptionExtents.take.Goals as goal

pub returns-clause-next : goal.returns-clause-next
returns-clause-next c = λ T e is known.
    let few = is.few in
    record {
      begun = c.take-first.ensures.begun T e is known.begun;
      frames = frames_next T e c.args.channel (seen_event c.args.event).verdict is.channel (ap (λ (x : EventValue). x.verdict) is.did) (omega arith) c.args.self.now.frames c.take.new.self known.frames
          c.take.ensures.tester c.take.ensures.unit;
    }

pub returns-clause-first : goal.returns-clause-first
returns-clause-first c = λ T e is known completes. c.take-first.ensures.place T e is known.begun completes

pub returns-clause-frames : goal.returns-clause-frames
returns-clause-frames c = λ T e is known completes.
    let few = is.few in
    c.frames_of-frames.ensures
    ∙ frames_known T e c.args.channel (seen_event c.args.event) c.args.self.now completes.0 is.channel is.did (omega arith) known
    (ap (λ (x : EventValue). x.verdict) is.did ∙ completes.1)
