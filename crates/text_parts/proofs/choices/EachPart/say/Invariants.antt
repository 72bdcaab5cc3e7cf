-- The parts up to the place of the loop are said.
use Rattle.std.proofs.Common.{take}
use Rattle.std.specs.List.{flat_map}
use Rattle.text_parts.proofs.choices.EachPart.say.Given as goal

abbrev pub invariant-parts : goal.invariant-parts
invariant-parts g l = g.S.TextSink.says l.initial.out (flat_map g.P.Part.text (take l.part-index l.self.0.now)) l.out
