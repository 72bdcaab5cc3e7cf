-- The end first, and then what became of the frame: so both starts are those after one more frame.
use Rattle.std.proofs.Common.{ap, ◌∙◌}
use Rattle.std.specs.Prelude.{unwrap_or}
use Rattle.isotp_receive.specs.EventSeen.{seen_event, seen_verdict}
use Rattle.isotp_receive.specs.Trace.{same_direction}
use Rattle.trace_canon.specs.ReceptionStarts.{start_after_verdict}
use Rattle.trace_canon.proofs.NextStarts.{begins_at, starts_next}
use Rattle.trace_canon.proofs.MovedStarts.{moved_by_all, moved_on, first_here, first_on}
use Rattle.trace_canon.proofs.reception_starts.ReceptionStarts.take.Goals as goal

pub returns-in-Functional-clause-stands : goal.returns-in-Functional-clause-stands
returns-in-Functional-clause-stands c = λ d.
    c.end.ensures d ∙ moved_by_all c.args.channel d (seen_event c.args.event) c.args.here _ c.in-Functional.is

pub returns-in-Functional-clause-first : goal.returns-in-Functional-clause-first
returns-in-Functional-clause-first c = first_here c.args.channel (seen_event c.args.event) c.args.here _ c.in-Functional.is

pub returns-in-Functional-clause-begun : goal.returns-in-Functional-clause-begun
returns-in-Functional-clause-begun c = λ T e is are.
    starts_next T e c.args.here c.args.channel c.args.event is c.args.self.now are c.end.new.self (returns-in-Functional-clause-stands c)

pub returns-in-Functional-clause-place : goal.returns-in-Functional-clause-place
returns-in-Functional-clause-place c = λ T e is are completes.
    begins_at T e c.args.here c.args.channel c.args.event is c.args.self.now are completes _ (returns-in-Functional-clause-first c)

pub returns-in_default-clause-stands : goal.returns-in_default-clause-stands
returns-in_default-clause-stands c = λ d.
    c.move_on.ensures.stands d
    ∙ ap (start_after_verdict (same_direction d c.dir.result) (seen_verdict c.args.event.verdict) c.args.here) (c.end.ensures d)
    ∙ moved_on c.args.channel c.dir.result d (seen_event c.args.event) c.args.here _ c.dir.ensures c.in_default.not-Functional

pub returns-in_default-clause-first : goal.returns-in_default-clause-first
returns-in_default-clause-first c =
    c.move_on.ensures.first ∙ ap (λ begun. unwrap_or begun c.args.here) (c.end.ensures c.dir.result)
    ∙ first_on c.args.channel c.dir.result (seen_event c.args.event) c.args.here c.args.self.now c.dir.ensures c.in_default.not-Functional

pub returns-in_default-clause-begun : goal.returns-in_default-clause-begun
returns-in_default-clause-begun c = λ T e is are.
    starts_next T e c.args.here c.args.channel c.args.event is c.args.self.now are c.move_on.new.self (returns-in_default-clause-stands c)

pub returns-in_default-clause-place : goal.returns-in_default-clause-place
returns-in_default-clause-place c = λ T e is are completes.
    begins_at T e c.args.here c.args.channel c.args.event is c.args.self.now are completes _ (returns-in_default-clause-first c)
