-- The decimals of a number, of which the last ones are said by themselves.
use Rattle.std.proofs.Common.{◌≡◌, ℕ, suc, ◌+◌, ◌-◌, ◌/◌, ◌%◌, ◌^◌, ◌<◌, ◌≤◌, Bool, List, [], ◌∷◌, ◌++◌, take, drop, refl, ap, sym, ◌∙◌, append_assoc, append-nil, arith}
use Rattle.std.specs.Prelude.{if◌then◌else◌}
use Rattle.std.specs.Fmt.{decimal}
use Rattle.std.proofs.lemmas.Bool.{lt-ltb}
use Rattle.std.proofs.lemmas.Fmt.{decimal_step, decimal_digit}
use Rattle.can_log.specs.Digits.{digit, digits}
use Rattle.can_log.specs.Digits as digits

-- the last digit of a number
pub digit_is : (n : ℕ) → 48 + n % 10 ≡ digit (n % 10)
digit_is n = ap (λ (small : Bool). if small then 48 + n % 10 else 65 + (n % 10 - 10)) (sym (lt-ltb (n % 10) 10 (omega arith)))

-- the last digit, and those before it
one_more : (n : ℕ) → 10 ≤ n → n < 2 ^ 64 → decimal n ≡ decimal (n / 10) ++ digit (n % 10) ∷ []
one_more n some small = decimal_step n some small ∙ ap (λ d. decimal (n / 10) ++ d ∷ []) (digit_is n)

-- the text of a number ends with its last digits: with one more of them
ends_with : (width n : ℕ) (front : List ℕ) → 10 ≤ n → n < 2 ^ 64 → decimal (n / 10) ≡ front ++ digits.decimal width (n / 10)
    → decimal n ≡ front ++ digits.decimal (suc width) n
unfolding digits
ends_with width n front some small so_far =
    one_more n some small ∙ ap (λ l. l ++ digit (n % 10) ∷ []) so_far ∙ append_assoc front (digits.decimal width (n / 10)) (digit (n % 10) ∷ [])

-- with the last four
four_behind : (n : ℕ) → 10000 ≤ n → n < 2 ^ 64 → decimal n ≡ decimal (n / 10000) ++ digits.decimal 4 n
unfolding digits
four_behind n some small =
    let front = decimal (n / 10000) in
    let rest : n / 10 / 10 / 10 / 10 ≡ n / 10000 = omega arith in
    ends_with 3 n front (omega arith) small
    (ends_with 2 (n / 10) front (omega arith) (omega arith)
    (ends_with 1 (n / 10 / 10) front (omega arith) (omega arith)
    (ends_with 0 (n / 10 / 10 / 10) front (omega arith) (omega arith) (ap decimal rest ∙ sym (append-nil front)))))

-- numbers of one to four digits
pub one_digit : (n : ℕ) → n < 10 → (48 + n) ∷ [] ≡ decimal n
one_digit n small = sym (decimal_digit n small)

one_exactly : (n : ℕ) → n < 10 → decimal n ≡ digits.decimal 1 n
unfolding digits
one_exactly n small = let same : n % 10 ≡ n = omega arith in decimal_digit n small ∙ ap (λ d. d ∷ []) (ap (λ m. 48 + m) (sym same) ∙ digit_is n)

pub two_digits : (n : ℕ) → 10 ≤ n → n < 100 → digits.decimal 2 n ≡ decimal n
two_digits n some small = sym (ends_with 1 n [] some (omega arith) (one_exactly (n / 10) (omega arith)))

pub three_digits : (n : ℕ) → 100 ≤ n → n < 1000 → take 3 (drop 1 (digits.decimal 4 n)) ≡ decimal n
unfolding digits
three_digits n some small = sym (ends_with 2 n [] (omega arith) (omega arith) (sym (two_digits (n / 10) (omega arith) (omega arith))))

pub four_digits : (n : ℕ) → 1000 ≤ n → n < 10000 → digits.decimal 4 n ≡ decimal n
four_digits n some small =
    sym (ends_with 3 n [] (omega arith) (omega arith)
    (ends_with 2 (n / 10) [] (omega arith) (omega arith) (sym (two_digits (n / 10 / 10) (omega arith) (omega arith)))))

-- the last four digits of what is left of a number
last_four : (n rest : ℕ) → rest ≡ n % 10000 → digits.decimal 4 rest ≡ digits.decimal 4 n
unfolding digits
last_four n rest is =
    let a : rest / 10 / 10 / 10 % 10 ≡ n / 10 / 10 / 10 % 10 = omega arith in
    let b : rest / 10 / 10 % 10 ≡ n / 10 / 10 % 10 = omega arith in
    let c : rest / 10 % 10 ≡ n / 10 % 10 = omega arith in
    let d : rest % 10 ≡ n % 10 = omega arith in
    rw (a, b, c, d) refl

-- four digits behind a number
pub and_four : (n front rest : ℕ) → 10000 ≤ n → n < 2 ^ 64 → front ≡ n / 10000 → rest ≡ n % 10000 → decimal front ++ digits.decimal 4 rest ≡ decimal n
and_four n front rest some small front_is rest_is =
    ap (λ f. decimal f ++ digits.decimal 4 rest) front_is ∙ ap (λ l. decimal (n / 10000) ++ l) (last_four n rest rest_is)
    ∙ sym (four_behind n some small)

-- and twice four
pub and_eight : (n front middle rest : ℕ) → 100000000 ≤ n → n < 2 ^ 64 → front ≡ n / 100000000 → middle ≡ n / 10000 % 10000 → rest ≡ n % 10000
    → (decimal front ++ digits.decimal 4 middle) ++ digits.decimal 4 rest ≡ decimal n
and_eight n front middle rest some small front_is middle_is rest_is =
    ap (λ l. l ++ digits.decimal 4 rest) (and_four (n / 10000) front middle (omega arith) (omega arith) (omega arith) middle_is)
    ∙ and_four n (n / 10000) rest (omega arith) small refl rest_is
