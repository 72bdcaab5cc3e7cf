-- The parts that are said are the head of the definition.
use Rattle.std.proofs.Common.{subst}
use Rattle.trace_canon.proofs.CreditLines.{head_is}
use Rattle.trace_canon.proofs.credit_lines.say_head.Goals as goal

pub returns : goal.returns
returns g c =
    subst (λ text. g.S.TextSink.says c.args.out.now text c.say.new.out)
    (head_is c.args.line.now _ _ c.as_slice.ensures.value c.as_slice-2.ensures.value) c.say.ensures
