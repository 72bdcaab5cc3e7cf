-- Digits of a number: how many they are, which, and their value.
use Prim.Native.Nat.{zero, suc}
use Rattle.std.proofs.Common.{◌≡◌, ℕ, ◌*◌, ◌/◌, ◌%◌, ◌^◌, ◌<◌, ◌≤◌, length, length-append, arith, refl}
use Rattle.std.specs.List.{AllByRecursion}
use Rattle.std.specs.Char.{digit_value}
use Rattle.std.specs.Str.Parse.{digits_value}
use Rattle.std.proofs.Math.Nat.{pow-suc, pow-zero, div-lt_iff_lt-mul}
use Rattle.std.proofs.lemmas.Nat.{div-add-mod'}
use Rattle.std.proofs.lemmas.Bool.Decides.{nat_tests}
use Rattle.std.proofs.lemmas.Int.Digits.{digits_value_push}
use Rattle.can_log.specs.Digits.{digit, digits}
use Rattle.can_log.proofs.EachElement.{AllByRecursion-append}

pub length-digits : (radix width number : ℕ) → length (digits radix width number) ≡ width
unfolding digits
length-digits radix zero number = refl
length-digits radix (suc width) number = rw length-append (let e = length-digits radix width (number / radix) in omega arith)

-- what holds of each digit of the base
pub each_digit : (P : ℕ → Type 0) (radix : ℕ) → 0 < radix → ((d : ℕ) → d < radix → P (digit d))
    → (width number : ℕ) → AllByRecursion P (digits radix width number)
unfolding digits
each_digit P radix some every zero number = tt
each_digit P radix some every (suc width) number =
    AllByRecursion-append P _ _ (each_digit P radix some every width (number / radix)) (every (number % radix) (omega arith), tt)

pub digit_value-digit : (d : ℕ) → d < 16 → digit_value (digit d) ≡ d
digit_value-digit d small = grind (arith, nat_tests)

pub digits_value-digits : (radix : ℕ) → 0 < radix → radix ≤ 16 → (width number : ℕ) → number < radix ^ width
    → digits_value radix (digits radix width number) ≡ number
unfolding digits
digits_value-digits radix some few zero number small =
    let below : number < 1 = rw pow-zero at small in
    omega arith
digits_value-digits radix some few (suc width) number small =
    let below : number < radix ^ width * radix = rw pow-suc at small in
    let front = digits_value-digits radix some few width (number / radix) ((div-lt_iff_lt-mul some).1 below) in
    let last = digit_value-digit (number % radix) (omega arith) in
    rw (digits_value_push, front, last) (div-add-mod' number radix)
