use Rattle.std.proofs.Common.{◌≡◌, ◌++◌, drop}
use Rattle.std.specs.List.{flat_map}
use Rattle.std.specs.Prelude.{string_bytes}
use Rattle.command_line.specs.Shown.{IsShown, shown_byte}
use Rattle.command_line.proofs.shown.shown.Given as goal

abbrev pub invariant-bytes : goal.invariant-bytes
invariant-bytes l = record {
  text : string_bytes l.out ++ flat_map shown_byte (drop l.byte-index l.bytes) ≡ flat_map shown_byte l.bytes;
  plain : IsShown (string_bytes l.out);
}
