-- Sixteen decimal digits as the lanes of a vector, and the number that they spell.
use Prim.Native.Char.{code}
use Prim.Native.Nat.{zero, suc}
use Rattle.std.proofs.Common.{◌≡◌, ℕ, ◌+◌, ◌-◌, ◌*◌, ◌<◌, ◌%◌, ◌++◌, List, [], ◌∷◌, length, length-append, take, drop, replicate, append_assoc, refl, sym, ap, subst, ◌∙◌, true, arith}
use Rattle.std.specs.Prelude.{codes}
use Rattle.std.proofs.Math.Seq.{take-append_seam, drop-append_seam}
use Rattle.std.proofs.lemmas.List.{length-replicate, length-take-le}
use Rattle.std.specs.Char.{is_ascii_digit, digit_value}
use Rattle.std.specs.Str.Parse.{digits_value}
use Rattle.std.proofs.lemmas.Simd.{pick_l_whole}
use Rattle.can_log.specs.proving.Plain.{AreDecimals, IsStamp, seconds_of, micros_of, padded, time_spelled}
use Rattle.can_log.proofs.DigitValues.{digit_is}
use Rattle.can_log.proofs.EachElement.{AllByRecursion-front, AllByRecursion-back, AllByRecursion-append, AllByRecursion-replicate}

-- the digits before and after the point spell one number
pub stamp_value : (stamp : List ℕ) → length stamp ≡ 17
    → digits_value 10 (seconds_of stamp ++ micros_of stamp) ≡ digits_value 10 (seconds_of stamp) * 1000000 + digits_value 10 (micros_of stamp)
stamp_value stamp long = rw (sym (pick_l_whole 0 stamp 17 long)) (omega arith)

-- zeros in front change no number
zeros_first : (n : ℕ) (digits : List ℕ) → digits_value 10 (replicate n (code "0") ++ digits) ≡ digits_value 10 digits
zeros_first zero digits = refl
zeros_first (suc n) digits = zeros_first n digits

-- a stamp with zeros in front, as long as the longest, has the same microseconds, and the zeros before the same seconds
record IsPadded (stamp longest : List ℕ) : Type 0 where
  pub seconds : seconds_of longest ≡ replicate (17 - length stamp) (code "0") ++ seconds_of stamp
  pub micros : micros_of longest ≡ micros_of stamp

padded_parts : (stamp longest : List ℕ) → IsStamp stamp → longest ≡ padded stamp → IsPadded stamp longest
padded_parts stamp longest is filled =
    let zeros = replicate (17 - length stamp) (code "0") in
    let seconds = seconds_of stamp in
    let micros = micros_of stamp in
    let zeros_long : length zeros ≡ 17 - length stamp = length-replicate (17 - length stamp) (code "0") in
    let seconds_long : length seconds ≡ length stamp - 7 = length-take-le (length stamp - 7) stamp (omega arith) in
    let long : length longest ≡ 17 = ap (λ (l : List ℕ). length l) filled ∙ length-append zeros stamp ∙ omega (arith, zeros_long, is.longest) in
    let whole : longest ≡ (zeros ++ seconds) ++ (code "." ∷ micros) =
    filled ∙ ap (λ (l : List ℕ). zeros ++ l) is.point ∙ sym (append_assoc zeros seconds (code "." ∷ micros)) in
    let first : length longest - 7 ≡ length (zeros ++ seconds) =
    omega (arith, long, length-append zeros seconds, zeros_long, seconds_long, is.shortest, is.longest) in
    let behind : length longest - 6 ≡ length ((zeros ++ seconds) ++ codes ".") =
    omega (arith, long, length-append (zeros ++ seconds) (codes "."), length-append zeros seconds, zeros_long, seconds_long, is.shortest, is.longest) in
    record {
      seconds = ap (λ (k : ℕ). take k longest) first ∙ ap (take (length (zeros ++ seconds))) whole ∙ take-append_seam (zeros ++ seconds) (code "." ∷ micros);
      micros = ap (λ (k : ℕ). drop k longest) behind ∙ ap (drop (length ((zeros ++ seconds) ++ codes "."))) (whole ∙ sym (append_assoc (zeros ++ seconds) (codes ".") micros))
          ∙ drop-append_seam ((zeros ++ seconds) ++ codes ".") micros;
    }

pub padded_time_is : (stamp longest : List ℕ) → IsStamp stamp → longest ≡ padded stamp → time_spelled longest ≡ time_spelled stamp
padded_time_is stamp longest is filled =
    let parts = padded_parts stamp longest is filled in
    let zeros = 17 - length stamp in
    ap (λ (l : List ℕ). digits_value 10 l * 1000000 + digits_value 10 (micros_of longest)) parts.seconds
    ∙ ap (λ (l : List ℕ). digits_value 10 (replicate zeros (code "0") ++ seconds_of stamp) * 1000000 + digits_value 10 l) parts.micros
    ∙ ap (λ (n : ℕ). n * 1000000 + digits_value 10 (micros_of stamp)) (zeros_first zeros (seconds_of stamp))

pub padded_decimals : (stamp longest : List ℕ) → IsStamp stamp → longest ≡ padded stamp → AreDecimals (seconds_of longest ++ micros_of longest)
padded_decimals stamp longest is filled =
    let parts = padded_parts stamp longest is filled in
    let zeros = replicate (17 - length stamp) (code "0") in
    let whole : seconds_of longest ++ micros_of longest ≡ zeros ++ (seconds_of stamp ++ micros_of stamp) =
    ap (λ (l : List ℕ). l ++ micros_of longest) parts.seconds ∙ ap (λ (l : List ℕ). (zeros ++ seconds_of stamp) ++ l) parts.micros
    ∙ append_assoc zeros (seconds_of stamp) (micros_of stamp) in
    subst AreDecimals (sym whole) (AllByRecursion-append (λ b. is_ascii_digit b ≡ true) zeros (seconds_of stamp ++ micros_of stamp) (AllByRecursion-replicate (λ b. is_ascii_digit b ≡ true) (17 - length stamp) (code "0") refl) is.decimals)

-- ---- the steps of the lanes

-- what the lane of a digit holds
abbrev lane : ℕ → ℕ
lane d = (d + 208) % 256

-- two numbers side by side, in a lane of this modulus
abbrev joined : ℕ → ℕ → ℕ → ℕ → ℕ
joined modulus radix high low = (high * radix % modulus + low) % modulus

abbrev two : ℕ → ℕ → ℕ
two a b = joined 65536 10 (lane a) (lane b)

abbrev four : ℕ → ℕ → ℕ → ℕ → ℕ
four a b c d = joined 4294967296 100 (two a b) (two c d)

abbrev eight : ℕ → ℕ → ℕ → ℕ → ℕ → ℕ → ℕ → ℕ → ℕ
eight a b c d e f g h = joined 18446744073709551616 10000 (four a b c d) (four e f g h)

two_is : (a b : ℕ) → is_ascii_digit a ≡ true → is_ascii_digit b ≡ true → (two a b ≡ 10 * digit_value a + digit_value b) × (two a b < 100)
two_is a b x y = (omega (arith, digit_is a x, digit_is b y), omega (arith, digit_is a x, digit_is b y))

four_is : (a b c d : ℕ) → AreDecimals (a ∷ b ∷ c ∷ d ∷ []) → (four a b c d ≡ digits_value 10 (a ∷ b ∷ c ∷ d ∷ [])) × (four a b c d < 10000)
four_is a b c d each =
    let high = two_is a b each.0 each.1.0 in
    let low = two_is c d each.1.1.0 each.1.1.1.0 in
    let value = joined_four (two a b) (two c d) high.1 low.1 in
    (value.0 ∙ rw (high.0, low.0) (omega arith), value.1)
  where
    joined_four : (x y : ℕ) → x < 100 → y < 100 → (joined 4294967296 100 x y ≡ 100 * x + y) × (joined 4294967296 100 x y < 10000)
    joined_four x y p q = (omega arith, omega arith)

eight_is : (a b c d e f g h : ℕ) → AreDecimals (a ∷ b ∷ c ∷ d ∷ e ∷ f ∷ g ∷ h ∷ [])
    → (eight a b c d e f g h ≡ digits_value 10 (a ∷ b ∷ c ∷ d ∷ e ∷ f ∷ g ∷ h ∷ [])) × (eight a b c d e f g h < 100000000)
eight_is a b c d e f g h each =
    let high = four_is a b c d (each.0, (each.1.0, (each.1.1.0, (each.1.1.1.0, tt)))) in
    let low = four_is e f g h each.1.1.1.1 in
    let value = joined_eight (four a b c d) (four e f g h) high.1 low.1 in
    (value.0 ∙ rw (high.0, low.0) (omega arith), value.1)
  where
    joined_eight : (x y : ℕ) → x < 10000 → y < 10000
        → (joined 18446744073709551616 10000 x y ≡ 10000 * x + y) × (joined 18446744073709551616 10000 x y < 100000000)
    joined_eight x y p q = (omega arith, omega arith)

-- two lanes of eight digits each
pub sixteen_is : (d0 d1 d2 d3 d4 d5 d6 d7 d8 d9 d10 d11 d12 d13 d14 d15 : ℕ) → AreDecimals (d0 ∷ d1 ∷ d2 ∷ d3 ∷ d4 ∷ d5 ∷ d6 ∷ d7 ∷ d8 ∷ d9 ∷ d10 ∷ d11 ∷ d12 ∷ d13 ∷ d14 ∷ d15 ∷ [])
    → eight d0 d1 d2 d3 d4 d5 d6 d7 * 100000000 + eight d8 d9 d10 d11 d12 d13 d14 d15 ≡ digits_value 10 (d0 ∷ d1 ∷ d2 ∷ d3 ∷ d4 ∷ d5 ∷ d6 ∷ d7 ∷ d8 ∷ d9 ∷ d10 ∷ d11 ∷ d12 ∷ d13 ∷ d14 ∷ d15 ∷ [])
sixteen_is d0 d1 d2 d3 d4 d5 d6 d7 d8 d9 d10 d11 d12 d13 d14 d15 each =
    let front = AllByRecursion-front (λ b. is_ascii_digit b ≡ true) (d0 ∷ d1 ∷ d2 ∷ d3 ∷ d4 ∷ d5 ∷ d6 ∷ d7 ∷ []) (d8 ∷ d9 ∷ d10 ∷ d11 ∷ d12 ∷ d13 ∷ d14 ∷ d15 ∷ []) each in
    let back = AllByRecursion-back (λ b. is_ascii_digit b ≡ true) (d0 ∷ d1 ∷ d2 ∷ d3 ∷ d4 ∷ d5 ∷ d6 ∷ d7 ∷ []) (d8 ∷ d9 ∷ d10 ∷ d11 ∷ d12 ∷ d13 ∷ d14 ∷ d15 ∷ []) each in
    rw ((eight_is d0 d1 d2 d3 d4 d5 d6 d7 front).0, (eight_is d8 d9 d10 d11 d12 d13 d14 d15 back).0) (omega arith)
