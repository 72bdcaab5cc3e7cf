use Rattle.std.proofs.Common.{take}
use Rattle.std.specs.List.{flat_map}
use Rattle.trace_difference.specs.Labels.{escaped}
use Rattle.trace_difference.proofs.labels.say_escaped.Given as goal

abbrev pub invariant-bytes : goal.invariant-bytes
invariant-bytes g l = g.S.TextSink.says l.initial.out (flat_map escaped (take l.byte-index l.name)) l.out
