-- Digits that are written: one after another from the last on, or sixteen at once, of a number or of eight bytes.
use Prim.Native.Nat.{suc}
use Rattle.std.proofs.Common.{◌≡◌, ℕ, ◌+◌, ◌/◌, ◌%◌, ◌^◌, ◌<◌, ◌≤◌, List, [], ◌∷◌, ◌++◌, map, length, set, drop, append_assoc, append-nil, refl, sym, ap, ◌∙◌, arith}
use Rattle.std.specs.Prelude.{bit_and}
use Rattle.std.specs.List.{AllByRecursion, flat_map}
use Rattle.std.proofs.lemmas.Nat.{and_mask}
use Rattle.std.proofs.lemmas.List.{drop-set}
use Rattle.std.proofs.Math.ListN.{drop_of_length-le}
use Rattle.can_log.specs.Digits.{digit, digits, decimal, hexadecimal}

-- ---- hexadecimal digits, from the last on

pub none_written : (whole written : List ℕ) (width : ℕ) → length written ≤ width → whole ≡ whole ++ drop width written
none_written whole written width all = rw (drop_of_length-le written all) (sym (append-nil whole))

pub one_digit : (whole written : List ℕ) (i j rest byte : ℕ) → i ≡ suc j → j < length written → byte ≡ digit (rest % 16)
    → whole ≡ hexadecimal i rest ++ drop i written → whole ≡ hexadecimal j (rest / 16) ++ drop j (set written j byte)
unfolding digits
one_digit whole written i j rest byte next within is so_far =
    let last : hexadecimal i rest ≡ hexadecimal j (rest / 16) ++ byte ∷ [] = rw (next, is) refl in
    let more : i ≡ j + 1 = omega arith in
    so_far ∙ rw (last, more, drop-set written j byte within) (append_assoc (hexadecimal j (rest / 16)) (byte ∷ []) (drop (j + 1) written))

pub all_written : (whole written : List ℕ) (i rest : ℕ) → i ≤ 0 → whole ≡ hexadecimal i rest ++ drop i written → written ≡ whole
unfolding digits
all_written whole written i rest done so_far =
    let none : i ≡ 0 = omega arith in
    sym (rw none at so_far)

-- ---- decimal digits, two from each place in base 100

-- the two digits of a place
abbrev pair : ℕ → List ℕ
pair place = digit (place / 10) ∷ digit (place % 10) ∷ []

-- one more place, after the digits of those before it
one_place : (before : List ℕ) (width number high low : ℕ) → number / 100 ≡ high → number % 100 ≡ low → before ≡ digits 10 width high
    → before ++ pair low ≡ digits 10 (suc (suc width)) number
unfolding digits
one_place before width number high low front last so_far =
    let rest : number / 10 / 10 ≡ high = omega arith in
    let tens : number / 10 % 10 ≡ low / 10 = omega arith in
    let ones : number % 10 ≡ low % 10 = omega arith in
    ap (λ (l : List ℕ). l ++ pair low) so_far
    ∙ sym (rw (rest, tens, ones) (append_assoc (digits 10 width high) (digit (low / 10) ∷ []) (digit (low % 10) ∷ [])))

-- eight places
pub sixteen : (n : ℕ)
    → pair (n / 10 ^ 14 % 100) ++ (pair (n / 10 ^ 12 % 100) ++ (pair (n / 10 ^ 10 % 100) ++ (pair (n / 10 ^ 8 % 100)
    ++ (pair (n / 10 ^ 6 % 100) ++ (pair (n / 10 ^ 4 % 100) ++ (pair (n / 10 ^ 2 % 100) ++ pair (n % 100)))))))
    ≡ decimal 16 n
unfolding digits
sixteen n =
    one_place _ 14 n (n / 10 ^ 2) (n % 100) (omega arith) refl
    (one_place _ 12 (n / 10 ^ 2) (n / 10 ^ 4) (n / 10 ^ 2 % 100) (omega arith) refl
    (one_place _ 10 (n / 10 ^ 4) (n / 10 ^ 6) (n / 10 ^ 4 % 100) (omega arith) refl
    (one_place _ 8 (n / 10 ^ 6) (n / 10 ^ 8) (n / 10 ^ 6 % 100) (omega arith) refl
    (one_place _ 6 (n / 10 ^ 8) (n / 10 ^ 10) (n / 10 ^ 8 % 100) (omega arith) refl
    (one_place _ 4 (n / 10 ^ 10) (n / 10 ^ 12) (n / 10 ^ 10 % 100) (omega arith) refl
    (one_place _ 2 (n / 10 ^ 12) (n / 10 ^ 14) (n / 10 ^ 12 % 100) (omega arith) refl
    (one_place [] 0 (n / 10 ^ 14) _ (n / 10 ^ 14 % 100) refl refl refl)))))))

-- ---- hexadecimal digits, two from each byte

-- the values of a byte's two digits
abbrev pub halves : ℕ → List ℕ
halves byte = byte / 16 ∷ bit_and byte 15 ∷ []

-- each is below 16
pub halves_below : (bytes : List ℕ) → AllByRecursion (λ b. b < 256) bytes → AllByRecursion (λ v. v < 16) (flat_map halves bytes)
halves_below [] small = tt
halves_below (b ∷ bytes) small = (omega (arith, small.0), (omega (arith, and_mask b 4), halves_below bytes small.1))

-- and their digits are those of the bytes
pub digits_of_halves : (bytes : List ℕ) → AllByRecursion (λ b. b < 256) bytes → map digit (flat_map halves bytes) ≡ flat_map (hexadecimal 2) bytes
unfolding digits
digits_of_halves [] small = refl
digits_of_halves (b ∷ bytes) small =
    let high : b / 16 ≡ b / 16 % 16 = omega (arith, small.0) in
    let low : bit_and b 15 ≡ b % 16 = and_mask b 4 in
    rw (← high, low, digits_of_halves bytes small.1) refl
