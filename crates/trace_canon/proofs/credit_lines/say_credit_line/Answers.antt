-- The parts that are said are the object of the definition.
use Rattle.std.proofs.Common.{subst}
use Rattle.trace_canon.proofs.CreditLines.{object_is}
use Rattle.trace_canon.proofs.credit_lines.say_credit_line.Goals as goal

pub returns-in-Json : goal.returns-in-Json
returns-in-Json g c =
    subst (λ text. g.S.TextSink.says c.args.out.now text c.say-in-Json.new.out)
    (object_is c.args.line.now c.args.notation _ _ c.in-Json.is c.as_slice-in-Json.ensures.value
    c.as_slice-in-Json-2.ensures.value) c.say-in-Json.ensures
