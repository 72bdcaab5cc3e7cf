-- The blank line, and the unit.
use Rattle.trace_canon.specs.CreditLines.{later_unit_text}
use Rattle.trace_canon.proofs.credit_lines.say_later_unit.Goals as goal

pub returns : goal.returns
unfolding later_unit_text
returns g c = g.met.S.TextSink.onward _ _ _ _ _ c.say.ensures c.say_unit.ensures
