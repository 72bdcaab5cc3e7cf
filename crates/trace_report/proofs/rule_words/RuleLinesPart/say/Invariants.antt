-- What is said so far and the lines of the rest are those of all rules.
use Rattle.std.proofs.Common.{◌≡◌, ◌++◌, List, ℕ, length}
use Rattle.trace_report.specs.RuleWords.{rule_lines}
use Rattle.trace_report.proofs.rule_words.RuleLinesPart.say.Given as goal

abbrev pub invariant-rules : goal.invariant-rules
invariant-rules g l =
    (text : List ℕ) × (rule_lines l.self.0.now l.self.1.now ≡ text ++ rule_lines l.left l.rest) × g.S.TextSink.says l.initial.out text l.out

abbrev pub decreases-rules : goal.decreases-rules
decreases-rules g l = length l.left
