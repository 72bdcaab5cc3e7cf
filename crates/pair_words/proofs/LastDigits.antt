-- The last decimal digits of a number.
use Rattle.std.proofs.Common.{◌≡◌, ℕ, ◌+◌, ◌/◌, ◌%◌, [], ◌∷◌, ap, ◌∙◌, arith}
use Rattle.can_log.specs.Digits.{decimal, digits}
use Rattle.trace_text.proofs.Promises.{digit_is}

pub two-digits : (n a b : ℕ) → a ≡ 48 + n / 10 % 10 → b ≡ 48 + n % 10 → a ∷ b ∷ [] ≡ decimal 2 n
unfolding digits
two-digits n a b a_is b_is =
    let tens = a_is ∙ digit_is (n / 10) in
    let ones = b_is ∙ digit_is n in
    (λ i. tens i ∷ ones i ∷ [])

pub four-digits : (n a b c d : ℕ) → a ≡ 48 + n / 1000 % 10 → b ≡ 48 + n / 100 % 10 → c ≡ 48 + n / 10 % 10 → d ≡ 48 + n % 10
    → a ∷ b ∷ c ∷ d ∷ [] ≡ decimal 4 n
unfolding digits
four-digits n a b c d a_is b_is c_is d_is =
    let thousand : n / 1000 ≡ n / 10 / 10 / 10 = omega arith in
    let hundred : n / 100 ≡ n / 10 / 10 = omega arith in
    let thousands = a_is ∙ ap (λ (m : ℕ). 48 + m % 10) thousand ∙ digit_is (n / 10 / 10 / 10) in
    let hundreds = b_is ∙ ap (λ (m : ℕ). 48 + m % 10) hundred ∙ digit_is (n / 10 / 10) in
    let tens = c_is ∙ digit_is (n / 10) in
    let ones = d_is ∙ digit_is n in
    (λ i. thousands i ∷ hundreds i ∷ tens i ∷ ones i ∷ [])
