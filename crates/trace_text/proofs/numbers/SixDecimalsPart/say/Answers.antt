-- The first six of the eight bytes are the digits.
use Rattle.std.proofs.Common.{◌≡◌, ℕ, [], ◌∷◌, ◌++◌, take, refl, ap, subst, ◌∙◌}
use Rattle.can_log.specs.Digits.{digits, decimal}
use Rattle.trace_text.proofs.numbers.SixDecimalsPart.say.Goals as goal

front : (number : ℕ) → take 6 (decimal 6 number ++ 0 ∷ 0 ∷ []) ≡ decimal 6 number
unfolding digits
front number = refl

pub returns : goal.returns
returns g c =
    subst (λ text. g.S.TextSink.says c.args.out.now text c.put_whole.new.self)
    (ap (take 6) c.six_decimals.ensures ∙ front c.args.self.0) c.put_whole.ensures
