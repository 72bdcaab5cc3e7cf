-- Where a reception ended the start of each direction is what is left of it; where none did, all stay.
use Rattle.std.proofs.Common.{ap, sym}
use Rattle.direction.specs.declared.Dir.TheVariants.{Tester, Unit}
use Rattle.trace_canon.specs.ReceptionStarts.{reception_start, still_begun}
use Rattle.trace_canon.proofs.reception_starts.ReceptionStarts.end.Goals as goal

pub returns-in-Some : goal.returns-in-Some
returns-in-Some c Tester = c.still_begun-tester.ensures
returns-in-Some c Unit = c.still_begun-unit.ensures

pub returns-in_default : goal.returns-in_default
returns-in_default c = λ d. ap (λ e. still_begun d e (reception_start c.args.self.now d)) (sym c.in_default.is)
