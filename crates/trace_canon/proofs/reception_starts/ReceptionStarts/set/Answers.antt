-- One direction has this start, and the other one its own.
use Rattle.trace_canon.proofs.MovedStarts.{of_tester, of_unit}
use Rattle.trace_canon.proofs.reception_starts.ReceptionStarts.set.Goals as goal

pub returns-in-Tester : goal.returns-in-Tester
returns-in-Tester c = λ d. rw (c.in-Tester.is) (of_tester c.args.begun c.args.self.now d)

pub returns-in-Unit : goal.returns-in-Unit
returns-in-Unit c = λ d. rw (c.in-Unit.is) (of_unit c.args.begun c.args.self.now d)
