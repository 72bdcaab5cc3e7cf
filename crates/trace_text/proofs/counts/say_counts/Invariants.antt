-- The counts up to the place of the loop are said.
use Rattle.std.proofs.Common.{take}
use Rattle.trace_text.specs.Counts.{counts_between}
use Rattle.trace_text.proofs.counts.say_counts.Given as goal

abbrev pub invariant-counts : goal.invariant-counts
invariant-counts g l = g.S.TextSink.says l.initial.out (counts_between l.before l.between (take l.count-index l.counts)) l.out
