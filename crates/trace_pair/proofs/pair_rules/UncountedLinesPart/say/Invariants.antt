use Rattle.std.proofs.Common.{take}
use Rattle.std.specs.List.{flat_map}
use Rattle.trace_pair.specs.PairRules.{uncounted_line}
use Rattle.trace_pair.proofs.pair_rules.UncountedLinesPart.say.Given as goal

abbrev pub invariant-rules : goal.invariant-rules
invariant-rules g l = g.S.TextSink.says l.initial.out (flat_map uncounted_line (take l.rule-index l.self.0.now)) l.out
