-- What is said so far and the text of the rest are that of all bytes.
use Rattle.std.proofs.Common.{◌≡◌, ◌++◌, List, ℕ, length}
use Rattle.shown_bytes.specs.Data.{marked_behind}
use Rattle.shown_bytes.specs.proving.Marking.{marks_in}
use Rattle.shown_bytes.proofs.data.MarkedBehindPart.say.Given as goal

abbrev pub invariant-bytes : goal.invariant-bytes
invariant-bytes g l =
    (text : List ℕ) × (marked_behind (marks_in l.self.0.now) l.self.1.now ≡ text ++ marked_behind (marks_in l.marks) l.rest)
    × g.S.TextSink.says l.initial.out text l.out

abbrev pub decreases-bytes : goal.decreases-bytes
decreases-bytes g l = length l.rest
