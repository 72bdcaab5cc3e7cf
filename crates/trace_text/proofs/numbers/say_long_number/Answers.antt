-- A number of up to twelve digits is its front and two times four digits behind.
use Rattle.std.proofs.Common.{◌++◌, ◌/◌, ◌%◌, arith, ap₂, refl, subst, ◌∙◌}
use Rattle.std.specs.Fmt.{decimal}
use Rattle.trace_text.proofs.Decimals.{and_eight}
use Rattle.trace_text.proofs.numbers.say_long_number.Goals as goal

pub returns-then-number-lt1000000000000 : goal.returns-then-number-lt1000000000000
returns-then-number-lt1000000000000 g c =
    let n = c.args.number in
    subst (λ text. g.S.TextSink.says c.args.out.now text c.say_number_before.new.out)
    (ap₂ (λ middle rest. (decimal (n / 100000000) ++ middle) ++ rest) c.four_decimals-middle.ensures c.four_decimals-last.ensures
    ∙ and_eight n (n / 100000000) (n % 100000000 / 10000) (n % 100000000 % 10000) (omega (arith, c.requires)) (omega arith) refl (omega arith)
    (omega arith))
    c.say_number_before.ensures
