-- What is said so far and the letters of the rest are those of all bytes.
use Rattle.std.proofs.Common.{◌≡◌, ◌++◌, List, ℕ, length}
use Rattle.shown_bytes.specs.Letters.{letters}
use Rattle.shown_bytes.proofs.letters.LettersPart.say.Given as goal

abbrev pub invariant-eights : goal.invariant-eights
invariant-eights g l = (text : List ℕ) × (letters l.self.0.now ≡ text ++ letters l.rest) × g.S.TextSink.says l.initial.out text l.out

abbrev pub decreases-eights : goal.decreases-eights
decreases-eights g l = length l.rest
