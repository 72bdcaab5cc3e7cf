-- The units so far were said.
use Rattle.std.proofs.Common.{take}
use Rattle.std.specs.List.{flat_map}
use Rattle.trace_canon.specs.CreditLines.{later_unit_text}
use Rattle.trace_canon.proofs.credit_lines.say_later_units.Given as goal

abbrev pub invariant-units : goal.invariant-units
invariant-units g l = g.S.TextSink.says l.initial.out (flat_map later_unit_text (take l.line-index l.lines)) l.out
