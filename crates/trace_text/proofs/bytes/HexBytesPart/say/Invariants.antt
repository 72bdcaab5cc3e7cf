-- What is said so far and the digits of the rest are those of all bytes.
use Rattle.std.proofs.Common.{◌≡◌, ◌++◌, List, ℕ, length}
use Rattle.trace_text.specs.Words.{bytes_text}
use Rattle.trace_text.proofs.bytes.HexBytesPart.say.Given as goal

abbrev pub invariant-eights : goal.invariant-eights
invariant-eights g l = (text : List ℕ) × (bytes_text l.self.0.now ≡ text ++ bytes_text l.rest) × g.S.TextSink.says l.initial.out text l.out

abbrev pub decreases-eights : goal.decreases-eights
decreases-eights g l = length l.rest
