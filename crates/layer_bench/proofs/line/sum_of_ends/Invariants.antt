use Rattle.std.proofs.Common.{◌≡◌}
use Rattle.layer_bench.proofs.line.sum_of_ends.Given as goal

-- the clock stands at the number of the next line
abbrev pub invariant-loop-number : goal.invariant-loop-number
invariant-loop-number l = l.clock ≡ l.number
