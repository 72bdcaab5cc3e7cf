-- What is said so far and the lines of the rest are those of all rules.
use Rattle.std.proofs.Common.{◌≡◌, ◌++◌, List, ℕ, length}
use Rattle.trace_pair.specs.PairRules.{pair_rule_lines}
use Rattle.trace_pair.proofs.pair_rules.PairRuleLinesPart.say.Given as goal

abbrev pub invariant-rules : goal.invariant-rules
invariant-rules g l =
    (text : List ℕ) × (pair_rule_lines l.self.0.now l.self.1.now l.self.2.now ≡ text ++ pair_rule_lines l.waiting l.left_counts l.right_counts)
    × g.S.TextSink.says l.initial.out text l.out

abbrev pub decreases-rules : goal.decreases-rules
decreases-rules g l = length l.waiting
