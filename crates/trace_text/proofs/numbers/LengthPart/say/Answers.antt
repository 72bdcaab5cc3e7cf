-- A length is the same number in the wider type.
use Rattle.std.proofs.Common.{ap, subst}
use Rattle.std.specs.Fmt.{decimal}
use Rattle.trace_text.proofs.numbers.LengthPart.say.Goals as goal

pub returns : goal.returns
returns g c = subst (λ text. g.S.TextSink.says c.args.out.now text c.say.new.out) (ap decimal c.from.ensures) c.say.ensures
