-- What is said so far and the text of the rest are that of all bytes.
use Rattle.std.proofs.Common.{◌≡◌, ◌++◌, List, ℕ, length}
use Rattle.trace_text.specs.RuledText.{masked_text}
use Rattle.trace_text.proofs.ruled_bytes.say_masked.Given as goal

abbrev pub invariant-places : goal.invariant-places
invariant-places g l =
    (text : List ℕ) × (masked_text l.fn.mask l.fn.bytes ≡ text ++ masked_text l.left l.rest) × g.S.TextSink.says l.initial.out text l.out

abbrev pub decreases-places : goal.decreases-places
decreases-places g l = length l.left.places
