use Rattle.std.proofs.Common.{take}
use Rattle.std.specs.List.{flat_map}
use Rattle.line_text.specs.Quoted.{quoted_byte}
use Rattle.line_text.proofs.quoted.BytesBetweenPart.say.Given as goal

abbrev pub invariant-bytes : goal.invariant-bytes
invariant-bytes g l = g.S.TextSink.says l.initial.out (flat_map quoted_byte (take l.byte-index l.self.0.now)) l.out
