use Rattle.std.proofs.Common.{◌≡◌, replicate}
use Rattle.trace_run.proofs.rule_counts.zeros.Given as goal

abbrev pub invariant-rules : goal.invariant-rules
invariant-rules l = l.counts.items ≡ replicate l._done 0
