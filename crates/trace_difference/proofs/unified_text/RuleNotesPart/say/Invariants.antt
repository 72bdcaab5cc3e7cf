-- What is said so far and the notes of the rest are those of all rules.
use Rattle.std.proofs.Common.{◌≡◌, ◌++◌, List, ℕ, length}
use Rattle.trace_difference.specs.Unified.{rule_notes}
use Rattle.trace_difference.proofs.unified_text.RuleNotesPart.say.Given as goal

abbrev pub invariant-rules : goal.invariant-rules
invariant-rules g l =
    (text : List ℕ) × (rule_notes l.self.0.now l.self.1.now l.self.2.now ≡ text ++ rule_notes l.waiting l.left_counts l.right_counts)
    × g.S.TextSink.says l.initial.out text l.out

abbrev pub decreases-rules : goal.decreases-rules
decreases-rules g l = length l.waiting
