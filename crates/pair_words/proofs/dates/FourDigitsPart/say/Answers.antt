-- The bytes that are put are the digits.
use Rattle.std.proofs.Common.{ℕ, List, subst}
use Rattle.pair_words.proofs.dates.FourDigitsPart.say.Goals as goal

pub returns : goal.returns
returns g c = subst (λ (text : List ℕ). g.S.TextSink.says c.args.out.now text c.put_whole.new.self) c.four_digits.ensures c.put_whole.ensures
