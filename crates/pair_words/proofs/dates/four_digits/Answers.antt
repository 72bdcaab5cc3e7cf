-- The digits are those of the number, from the thousands on.
use Rattle.pair_words.proofs.LastDigits.{four-digits}
use Rattle.pair_words.proofs.dates.four_digits.Goals as goal

pub returns : goal.returns
returns c =
    four-digits c.args.number c.digit.result c.digit-2.result c.digit-3.result c.digit-4.result
    c.digit.ensures c.digit-2.ensures c.digit-3.ensures c.digit-4.ensures
