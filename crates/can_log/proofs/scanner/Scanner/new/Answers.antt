use Rattle.std.proofs.Common.{arith, subst, sym, List, ℕ}
use Rattle.can_log.specs.proving.Judging.{StandsWell}
use Rattle.can_log.proofs.LineReads.{empty_legal}
use Rattle.can_log.proofs.scanner.Scanner.new.Goals as goal

pub invariant_of-result : goal.invariant_of-result
invariant_of-result c = subst (λ (z : List ℕ). StandsWell 0 0 z) (sym c.new.ensures) (record { counted = omega arith; clean = tt; legal = empty_legal })
