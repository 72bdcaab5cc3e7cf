-- The bytes of the name up to the place of the loop are said.
use Rattle.std.proofs.Common.{take}
use Rattle.shown_bytes.specs.LogNames.{name_text}
use Rattle.shown_bytes.proofs.log_names.NamePart.say.Given as goal

abbrev pub invariant-bytes : goal.invariant-bytes
invariant-bytes g l = g.S.TextSink.says l.initial.out (name_text (take l.byte-index l.self.0.now)) l.out
