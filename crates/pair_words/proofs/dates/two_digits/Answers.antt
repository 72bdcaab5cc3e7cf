-- The digits are those of the number, from the tens on.
use Rattle.pair_words.proofs.LastDigits.{two-digits}
use Rattle.pair_words.proofs.dates.two_digits.Goals as goal

pub returns : goal.returns
returns c = two-digits c.args.number c.digit.result c.digit-2.result c.digit.ensures c.digit-2.ensures
