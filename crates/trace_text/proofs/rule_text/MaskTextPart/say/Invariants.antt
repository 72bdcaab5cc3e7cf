-- What is said so far and the text of the rest are that of the whole mask.
use Rattle.std.proofs.Common.{◌≡◌, ◌++◌, List, ℕ, length}
use Rattle.uds_rules.specs.Pattern.{mask_text}
use Rattle.trace_text.proofs.rule_text.MaskTextPart.say.Given as goal

abbrev pub invariant-places : goal.invariant-places
invariant-places g l = (text : List ℕ) × (mask_text l.fn.self.0.now ≡ text ++ mask_text l.left) × g.S.TextSink.says l.initial.out text l.out

abbrev pub decreases-places : goal.decreases-places
decreases-places g l = length l.left.places
