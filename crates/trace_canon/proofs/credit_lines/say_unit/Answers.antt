-- The comment, the head and the identifiers, one after another.
use Rattle.trace_canon.specs.CreditLines.{unit_text}
use Rattle.trace_canon.proofs.credit_lines.say_unit.Goals as goal

pub returns : goal.returns
unfolding unit_text
returns g c =
    let onward = g.met.S.TextSink.onward in
    onward _ _ _ _ _ (onward _ _ _ _ _ c.say_answered.ensures c.say_head.ensures) c.say_identifiers.ensures
