-- The letters up to the place of the loop are said.
use Rattle.std.proofs.Common.{take}
use Rattle.shown_bytes.specs.Letters.{letters}
use Rattle.shown_bytes.proofs.letters.say_few_letters.Given as goal

abbrev pub invariant-bytes : goal.invariant-bytes
invariant-bytes g l = g.S.TextSink.says l.initial.out (letters (take l.byte-index l.bytes)) l.out
