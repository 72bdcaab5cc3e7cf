-- Trouble codes said one after another, and the bits of a status.
use Rattle.std.proofs.Common.{◌≡◌, ℕ, ◌-◌, ◌<◌, ◌≤◌, ◌^◌, false, List, [], ◌∷◌, ◌++◌, length, take, drop, slice_index_or, refl, ap, sym, ◌∙◌, arith}
use Rattle.std.specs.Prelude.{◌==◌, codes, nat_lt}
use Rattle.std.specs.Int.{bit_at}
use Rattle.std.proofs.Math.Nat.{div-eq_of_lt, pow-le-pow_right}
use Rattle.std.proofs.lemmas.Bool.Decides.{nat_tests}
use Rattle.std.proofs.lemmas.List.{take_all}
use Rattle.shown_bytes.specs.TroubleCodes.{code_text, codes_behind}

-- the first code of some, behind its comma
abbrev pub first_code : List ℕ → List ℕ
first_code rest =
    codes ", " ++ code_text (slice_index_or rest 0 0) (slice_index_or rest 1 0) (slice_index_or rest 2 0) (slice_index_or rest 3 0)

-- the codes of some bytes are the first one and those behind it
pub one_more : (rest : List ℕ) (count : ℕ) → 4 ≤ length rest → count ≡ length rest
    → codes_behind rest ≡ first_code rest ++ codes_behind (take (count - 4) (drop 4 rest))
unfolding codes_behind
one_more [] count long is = absurd (omega (arith, long))
one_more (a ∷ []) count long is = absurd (omega (arith, long))
one_more (a ∷ b ∷ []) count long is = absurd (omega (arith, long))
one_more (a ∷ b ∷ c ∷ []) count long is = absurd (omega (arith, long))
one_more (a ∷ b ∷ c ∷ d ∷ rest) count long is =
    ap (λ others. (codes ", " ++ code_text a b c d) ++ codes_behind others) (sym (take_all (count - 4) rest (omega (arith, is))))

-- fewer than four bytes have no code
pub no_more : (rest : List ℕ) → length rest < 4 → codes_behind rest ≡ []
unfolding codes_behind
no_more [] short = refl
no_more (a ∷ []) short = refl
no_more (a ∷ b ∷ []) short = refl
no_more (a ∷ b ∷ c ∷ []) short = refl
no_more (a ∷ b ∷ c ∷ d ∷ rest) short = absurd (omega (arith, short))

-- a byte has no bit from 8 on
no_high_bit : (status bit : ℕ) → status < 256 → 8 ≤ bit → (bit_at status bit == 1) ≡ false
no_high_bit status bit small high =
    let power : 2 ^ 8 ≤ 2 ^ bit = pow-le-pow_right (omega arith) high in
    let below : status < 2 ^ bit = omega (arith, small, power) in
    rw (div-eq_of_lt below) refl

not_below : (bit : ℕ) → 8 ≤ bit → nat_lt bit 8 ≡ false
not_below bit high = grind (arith, nat_tests)

-- so the test whether it is below 8 tells that it is not set
pub high_bit_is_not_set : (status bit : ℕ) → status < 256 → 8 ≤ bit → nat_lt bit 8 ≡ (bit_at status bit == 1)
high_bit_is_not_set status bit small high = not_below bit high ∙ sym (no_high_bit status bit small high)
