-- Before the first frame no reception stands.
use Rattle.std.proofs.Common.{refl}
use Rattle.direction.specs.declared.Dir.TheVariants.{Tester, Unit}
use Rattle.trace_canon.proofs.MovedStarts.{none_begun}
use Rattle.trace_canon.proofs.reception_starts.ReceptionStarts.start.Goals as goal

pub returns-clause-none : goal.returns-clause-none
returns-clause-none c Tester = refl
returns-clause-none c Unit = refl

pub returns-clause-begun : goal.returns-clause-begun
returns-clause-begun c = none_begun
