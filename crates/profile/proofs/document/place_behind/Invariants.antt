use Rattle.std.proofs.Common.{◌≡◌, ◌+◌, ◌≤◌, drop}
use Rattle.profile.specs.Document.{place_behind}
use Rattle.profile.proofs.document.place_behind.Given as goal

abbrev pub invariant-bytes : goal.invariant-bytes
invariant-bytes l = record {
  line : l.line ≤ l.byte-index + 1;
  column : l.column ≤ l.byte-index + 1;
  rest : place_behind 1 1 l.front ≡ place_behind l.line l.column (drop l.byte-index l.front);
}
