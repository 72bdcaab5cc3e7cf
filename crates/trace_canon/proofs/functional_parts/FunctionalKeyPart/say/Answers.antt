-- The parts that are said are the key of the definition.
use Rattle.std.proofs.Common.{subst}
use Rattle.trace_canon.proofs.CreditLines.{key_is}
use Rattle.trace_canon.proofs.functional_parts.FunctionalKeyPart.say.Goals as goal

pub returns-in-Some : goal.returns-in-Some
returns-in-Some g c =
    subst (λ text. g.S.TextSink.says c.args.out.now text c.say.new.out)
    (key_is c.args.self.0.now.functional c.in-Some.id _ c.in-Some.is c.as_slice.ensures.value) c.say.ensures
