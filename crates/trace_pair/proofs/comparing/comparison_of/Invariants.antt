-- The rows up to the place of the loop are the same.
use Rattle.trace_pair.proofs.FirstChanges.{AreSameUpTo}
use Rattle.trace_pair.proofs.comparing.comparison_of.Given as goal

abbrev pub invariant-rows : goal.invariant-rows
invariant-rows l = AreSameUpTo l.rows l.k
