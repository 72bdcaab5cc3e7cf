use Rattle.std.proofs.Common.{◌≡◌, drop}
use Rattle.shown_bytes.specs.proving.Marking.{marks_in}
use Rattle.shown_bytes.proofs.marks.Marks.skip.Given as goal

abbrev pub invariant-bytes : goal.invariant-bytes
invariant-bytes l = marks_in l.marks ≡ drop l._at (marks_in l.fn.self)
