-- By its length, a number is one digit, a pair of the table, or the last of four digits.
use Rattle.std.proofs.Common.{◌++◌, take, drop, arith, ap, subst, ◌∙◌}
use Rattle.trace_text.proofs.Decimals.{one_digit, two_digits, three_digits, four_digits}
use Rattle.trace_text.proofs.numbers.say_number_before.Goals as goal

pub returns-then-number-lt10 : goal.returns-then-number-lt10
returns-then-number-lt10 g c =
    subst (λ text. g.S.TextSink.says c.args.out.now text c.put_three.new.self)
    (ap (λ f. f ++ c.args.second.now ++ c.args.third.now) (one_digit c.args.number (omega arith))) c.put_three.ensures

pub returns-then-number-lt100 : goal.returns-then-number-lt100
returns-then-number-lt100 g c =
    subst (λ text. g.S.TextSink.says c.args.out.now text c.put_three-then-number-lt100.new.self)
    (ap (λ f. f ++ c.args.second.now ++ c.args.third.now) (c.two_decimals.ensures ∙ two_digits c.args.number (omega arith) (omega arith)))
    c.put_three-then-number-lt100.ensures

pub returns-then-number-lt1000 : goal.returns-then-number-lt1000
returns-then-number-lt1000 g c =
    subst (λ text. g.S.TextSink.says c.args.out.now text c.put_three-then-number-lt1000.new.self)
    (ap (λ f. f ++ c.args.second.now ++ c.args.third.now) (ap (λ four. take 3 (drop 1 four)) c.four_decimals.ensures
    ∙ three_digits c.args.number (omega arith) (omega arith)))
    c.put_three-then-number-lt1000.ensures

pub returns-else-number-lt1000 : goal.returns-else-number-lt1000
returns-else-number-lt1000 g c =
    subst (λ text. g.S.TextSink.says c.args.out.now text c.put_three-else-number-lt1000.new.self)
    (ap (λ f. f ++ c.args.second.now ++ c.args.third.now) (c.four_decimals-else-number-lt1000.ensures
    ∙ four_digits c.args.number (omega arith) (omega (arith, c.requires))))
    c.put_three-else-number-lt1000.ensures
