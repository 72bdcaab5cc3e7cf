use Rattle.std.proofs.Common.{take}
use Rattle.std.specs.List.{flat_map}
use Rattle.profile.specs.Answers.{unit_value}
use Rattle.asked_profile.specs.Choice.{name_behind}
use Rattle.asked_profile.proofs.unit_names.OtherNamesPart.say.Given as goal

abbrev pub invariant-units : goal.invariant-units
invariant-units g l = g.S.TextSink.says l.initial.out (flat_map (λ one. name_behind (unit_value one)) (take l.one-index l.self.0.now)) l.out
