-- The bytes that are put are the digits.
use Rattle.std.proofs.Common.{subst}
use Rattle.trace_text.proofs.numbers.ThreeDecimalsPart.say.Goals as goal

pub returns : goal.returns
returns g c = subst (λ text. g.S.TextSink.says c.args.out.now text c.put_whole.new.self) c.three_decimals.ensures c.put_whole.ensures
