-- What is said so far and the text of the rest are that of all bytes.
use Rattle.std.proofs.Common.{◌≡◌, ◌++◌, List, ℕ, length}
use Rattle.shown_bytes.specs.Data.{bytes_behind}
use Rattle.shown_bytes.proofs.data.say_bytes_behind.Given as goal

abbrev pub invariant-eights : goal.invariant-eights
invariant-eights g l = (text : List ℕ) × (bytes_behind l.bytes ≡ text ++ bytes_behind l.rest) × g.S.TextSink.says l.initial.out text l.out

abbrev pub decreases-eights : goal.decreases-eights
decreases-eights g l = length l.rest
