use Rattle.std.proofs.Common.{◌≡◌, ◌≤◌, length, true}
use Rattle.std.specs.Io.KnownBytes.{IsAtEnd}
use Rattle.trace_io.specs.Stream.{Gave}
use Rattle.udsnorm.proofs.profiled.read_profile.Given as goal

-- What the reads gave stands in the text, and each of them gave a byte. Where the file tells the bytes to come, they gave these.
abbrev pub invariant-pieces : goal.invariant-pieces
invariant-pieces g l = record {
  text : l.text.items ≡ l.file.given;
  reads : l.file.reads ≡ l.counter;
  failures : l.file.failures ≡ 0;
  least : l.counter ≤ length l.text.items;
  most : length l.text.items ≤ 65536;
  gave : Gave l.initial.file.given l.file.given (g.F.Read.remaining l.initial.file.inner) (g.F.Read.remaining l.file.inner);
  ended : (l.initial.file.is_over ≡ true → IsAtEnd (g.F.Read.remaining l.initial.file.inner))
      → l.file.is_over ≡ true → IsAtEnd (g.F.Read.remaining l.file.inner);
}
