-- The values of digits, and how large a number of n digits is.
use Prim.Native.Char.{code}
use Rattle.std.proofs.Common.{◌≡◌, ℕ, ◌+◌, ◌-◌, ◌*◌, ◌^◌, ◌<◌, ◌≤◌, Bool, true, sym, arith}
use Rattle.std.proofs.Common.{List, [], ◌∷◌, length, get_or, take}
use Rattle.std.specs.List.{AllByRecursion}
use Rattle.std.specs.Char.{is_ascii_digit, is_ascii_hexdigit, digit_value}
use Rattle.std.specs.Str.Parse.{digits_value, AllDigits}
use Rattle.std.proofs.Math.Nat.{pow-le-pow_right}
use Rattle.std.proofs.lemmas.Bool.Decides.{nat_tests}
use Rattle.std.proofs.lemmas.Int.Digits.{digits_value-lt, digits_value_more}
use Rattle.std.proofs.lemmas.List.{length-take, take_more}
use Rattle.can_log.proofs.EachElement.{AllByRecursion-append, AllByRecursion-take}

-- ---- one digit

pub digit_is : (b : ℕ) → is_ascii_digit b ≡ true → (b - code "0" ≡ digit_value b) × (digit_value b < 10) × (code "0" ≤ b)
digit_is b h = grind (arith, nat_tests)

-- a digit is at most 7 where it stands before `8`
pub hex_value : (b : ℕ) → is_ascii_hexdigit b ≡ true → (digit_value b < 16) × (b < code "8" → digit_value b ≤ 7) × (code "8" ≤ b → 8 ≤ digit_value b)
hex_value b h = grind (arith, nat_tests)

-- ---- digits in a row

abbrev pub AreDigits : List ℕ → Type 0
AreDigits = AllByRecursion (λ b. is_ascii_digit b ≡ true)

abbrev pub AreHex : List ℕ → Type 0
AreHex = AllByRecursion (λ b. is_ascii_hexdigit b ≡ true)

-- at most `most` digits of a base make a number below that power of the base
module _ (base : ℕ) (is_digit : ℕ → Bool) (is_below : (b : ℕ) → is_digit b ≡ true → digit_value b < base) where
  all_digits : (digits : List ℕ) → AllByRecursion (λ b. is_digit b ≡ true) digits → AllDigits base digits
  all_digits [] each = tt
  all_digits (d ∷ digits) each = (is_below d each.0, all_digits digits each.1)

  digits_value-below : 0 < base → (most : ℕ) (digits : List ℕ) → AllByRecursion (λ b. is_digit b ≡ true) digits → length digits ≤ most
      → digits_value base digits < base ^ most
  digits_value-below some most digits each few = omega (arith, digits_value-lt base digits (all_digits digits each), pow-le-pow_right some few)

pub digits_so_far : (bytes : List ℕ) (n value : ℕ) → AreDigits (take n bytes) → n < 10 → value ≡ digits_value 10 (take n bytes) → value < 10 ^ 9
digits_so_far bytes n value each few e =
    rw e (digits_value-below 10 is_ascii_digit (λ b h. (digit_is b h).1) (omega arith) 9 (take n bytes) each (omega (arith, length-take n bytes)))

pub digits_in_all : (bytes : List ℕ) (n value : ℕ) → AreDigits (take n bytes) → n ≤ 10 → value ≡ digits_value 10 (take n bytes) → value < 10 ^ 10
digits_in_all bytes n value each few e =
    rw e (digits_value-below 10 is_ascii_digit (λ b h. (digit_is b h).1) (omega arith) 10 (take n bytes) each (omega (arith, length-take n bytes)))

-- digits before the last of eight
pub next_hex : (ds : List ℕ) (i n : ℕ) → AreHex ds → length ds ≤ 8 → i < length ds → n ≡ digits_value 16 (take i ds) → n < 16 ^ 7
next_hex ds i n each few lt e =
    let front = AllByRecursion-take (λ b. is_ascii_hexdigit b ≡ true) i ds each in
    rw e (digits_value-below 16 is_ascii_hexdigit (λ b h. (hex_value b h).0) (omega arith) 7 (take i ds) front (omega (arith, length-take i ds)))

pub digits_more : (bytes : List ℕ) (n : ℕ) → n < length bytes → AreDigits (take n bytes) → is_ascii_digit (get_or bytes n 0) ≡ true → AreDigits (take (n + 1) bytes)
digits_more bytes n lt each h =
    rw (take_more bytes n 0 lt) (AllByRecursion-append (λ b. is_ascii_digit b ≡ true) (take n bytes) (get_or bytes n 0 ∷ []) each (h, tt))

pub one_more : (r : ℕ) (ds : List ℕ) (i n d : ℕ) → i < length ds → n ≡ digits_value r (take i ds) → d ≡ digit_value (get_or ds i 0)
    → n * r + d ≡ digits_value r (take (i + 1) ds)
one_more r ds i n d lt e k = rw (e, k) (sym (digits_value_more r ds i lt))

-- three digits spell at most 7FF where the first is at most 7, and more where it is not
pub three_low : (a b c : ℕ) → AreHex (a ∷ b ∷ c ∷ []) → a < code "8" → digits_value 16 (a ∷ b ∷ c ∷ []) ≤ 0x7FF
three_low a b c each low = bound (digit_value a) (digit_value b) (digit_value c) ((hex_value a each.0).1 low) (hex_value b each.1.0).0 (hex_value c each.1.1.0).0
  where
    bound : (x y z : ℕ) → x ≤ 7 → y < 16 → z < 16 → ((0 * 16 + x) * 16 + y) * 16 + z ≤ 0x7FF
    bound x y z h k l = omega arith

pub three_high : (a b c : ℕ) → AreHex (a ∷ b ∷ c ∷ []) → code "8" ≤ a → digits_value 16 (a ∷ b ∷ c ∷ []) ≤ 0x7FF → ⊥
three_high a b c each high h = bound (digit_value a) (digit_value b) (digit_value c) ((hex_value a each.0).2 high) h
  where
    bound : (x y z : ℕ) → 8 ≤ x → ((0 * 16 + x) * 16 + y) * 16 + z ≤ 0x7FF → ⊥
    bound x y z h k = omega arith
