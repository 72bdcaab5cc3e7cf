-- A number of up to eight digits is its front and four digits behind.
use Rattle.std.proofs.Common.{◌++◌, ◌/◌, ◌%◌, arith, ap, refl, subst, append-nil, ◌∙◌}
use Rattle.std.specs.Fmt.{decimal}
use Rattle.trace_text.proofs.Decimals.{and_four}
use Rattle.trace_text.proofs.numbers.NumberPart.say.Goals as goal

pub returns-then-number-lt100000000 : goal.returns-then-number-lt100000000
returns-then-number-lt100000000 g c =
    let n = c.args.self.0 in
    subst (λ text. g.S.TextSink.says c.args.out.now text c.say_number_before.new.out)
    (append-nil _ ∙ ap (λ l. decimal (n / 10000) ++ l) c.four_decimals-last.ensures
    ∙ and_four n (n / 10000) (n % 10000) (omega arith) (omega arith) refl refl)
    c.say_number_before.ensures
