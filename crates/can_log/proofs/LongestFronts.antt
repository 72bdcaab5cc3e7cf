-- A stamp with ten digits of seconds and the bytes around it, compared in two vectors with those of zeros.
use Rattle.std.proofs.Common.{◌≡◌, ℕ, ◌+◌, ◌-◌, ◌%◌, ◌<◌, Bool, true, not, cond, ltb, ◌||◌, List, [], ◌∷◌, map, bit_or, refl, sym, ap, ◌∙◌, arith}
use Rattle.std.specs.Prelude.{◌==◌, IsTrue, bit_xor}
use Rattle.std.specs.Char.{is_ascii_digit}
use Rattle.std.specs.List.{AllByRecursion, range_with_len}
use Rattle.std.proofs.lemmas.Bool.{agree_below, agree_below_at, eqb-true}
use Rattle.std.proofs.lemmas.Nat.{le_or_l, le_or_r}
use lib.Lanes.{top}
use Rattle.can_log.specs.proving.Plain.{IsLongestFront}
use Rattle.can_log.proofs.PlainLines.{stamp_is}

-- what is left in a lane of a byte that may differ from this form by so much
abbrev left : ℕ → ℕ → ℕ → ℕ
left form most b = (cond (top 7 (cond (ltb (bit_xor b form) most) 255 0)) most (bit_xor b form) + (256 - most)) % 256

-- the lanes of two bytes
abbrev lane : ℕ → ℕ → ℕ → ℕ → ℕ → ℕ → ℕ
lane form most b form2 most2 b2 = bit_or (left form most b) (left form2 most2 b2)

-- where nothing is left, the byte passes this test
abbrev IsTested : ℕ → ℕ → (ℕ → Bool) → Type 0
IsTested form most test = agree_below (λ b. not (left form most b == 0) || test b) (λ _. true) 256 ≡ true

tested : (form most : ℕ) (test : ℕ → Bool) → IsTested form most test → (b : ℕ) → b < 256 → left form most b ≡ 0 → test b ≡ true
tested form most test all b fits none =
    sym (ap (λ (n : ℕ). not (n == 0) || test b) none) ∙ agree_below_at (λ b. not (left form most b == 0) || test b) (λ _. true) 256 b all fits

same : (form : ℕ) → IsTested form 0 (λ b. b == form) → (b : ℕ) → b < 256 → left form 0 b ≡ 0 → b ≡ form
same form all b fits none = eqb-true b form (tested form 0 (λ b. b == form) all b fits none)

digit : (b : ℕ) → b < 256 → left 48 9 b ≡ 0 → is_ascii_digit b ≡ true
digit b fits none = tested 48 9 is_ascii_digit refl b fits none

-- a lane of both is 0 where each is
first_none : (x y : ℕ) → IsTrue (bit_or x y == 0) → x ≡ 0
first_none x y h = omega (arith, le_or_l x y, eqb-true (bit_or x y) 0 h)

last_none : (x y : ℕ) → IsTrue (bit_or x y == 0) → y ≡ 0
last_none x y h = omega (arith, le_or_r x y, eqb-true (bit_or x y) 0 h)

pub longest_front : (b : ℕ → ℕ) → ((k : ℕ) → b k < 256)
    → AllByRecursion (λ x. IsTrue (x == 0)) (lane 40 0 (b 0) 48 9 (b 4) ∷ lane 48 9 (b 1) 48 9 (b 5) ∷ lane 48 9 (b 2) 48 9 (b 6) ∷ lane 48 9 (b 3) 48 9 (b 7) ∷ lane 48 9 (b 4) 48 9 (b 8) ∷ lane 48 9 (b 5) 48 9 (b 9) ∷ lane 48 9 (b 6) 48 9 (b 10) ∷ lane 48 9 (b 7) 46 0 (b 11) ∷ lane 48 9 (b 8) 48 9 (b 12) ∷ lane 48 9 (b 9) 48 9 (b 13) ∷ lane 48 9 (b 10) 48 9 (b 14) ∷ lane 46 0 (b 11) 48 9 (b 15) ∷ lane 48 9 (b 12) 48 9 (b 16) ∷ lane 48 9 (b 13) 48 9 (b 17) ∷ lane 48 9 (b 14) 41 0 (b 18) ∷ lane 48 9 (b 15) 32 0 (b 19) ∷ [])
    → IsLongestFront (map b (range_with_len 0 20))
longest_front b fits zeros =
    let first_digit : (k j : ℕ) (form most : ℕ) → IsTrue (lane 48 9 (b k) form most (b j) == 0) → is_ascii_digit (b k) ≡ true =
    λ k j form most h. digit (b k) (fits k) (first_none (left 48 9 (b k)) (left form most (b j)) h)
    in
    let last_digit : (k j : ℕ) → IsTrue (lane 48 9 (b j) 48 9 (b k) == 0) → is_ascii_digit (b k) ≡ true =
    λ k j h. digit (b k) (fits k) (last_none (left 48 9 (b j)) (left 48 9 (b k)) h)
    in
    let opens : b 0 ≡ 40 = same 40 refl (b 0) (fits 0) (first_none (left 40 0 (b 0)) (left 48 9 (b 4)) zeros.0) in
    let point : b 11 ≡ 46 = same 46 refl (b 11) (fits 11) (first_none (left 46 0 (b 11)) (left 48 9 (b 15)) zeros.1.1.1.1.1.1.1.1.1.1.1.0) in
    let closes : b 18 ≡ 41 = same 41 refl (b 18) (fits 18) (last_none (left 48 9 (b 14)) (left 41 0 (b 18)) zeros.1.1.1.1.1.1.1.1.1.1.1.1.1.1.0) in
    let space : b 19 ≡ 32 = same 32 refl (b 19) (fits 19) (last_none (left 48 9 (b 15)) (left 32 0 (b 19)) zeros.1.1.1.1.1.1.1.1.1.1.1.1.1.1.1.0) in
    let stamp : List ℕ = map b (range_with_len 1 17) in
    record {
      parts = λ i. opens i ∷ b 1 ∷ b 2 ∷ b 3 ∷ b 4 ∷ b 5 ∷ b 6 ∷ b 7 ∷ b 8 ∷ b 9 ∷ b 10 ∷ b 11 ∷ b 12 ∷ b 13 ∷ b 14 ∷ b 15 ∷ b 16 ∷ b 17 ∷ closes i ∷ space i ∷ [];
      stamp = stamp_is stamp 10 refl (omega arith) (omega arith) point (first_digit 1 5 48 9 zeros.1.0, (first_digit 2 6 48 9 zeros.1.1.0, (first_digit 3 7 48 9 zeros.1.1.1.0, (first_digit 4 8 48 9 zeros.1.1.1.1.0, (first_digit 5 9 48 9 zeros.1.1.1.1.1.0, (first_digit 6 10 48 9 zeros.1.1.1.1.1.1.0, (first_digit 7 11 46 0 zeros.1.1.1.1.1.1.1.0, (first_digit 8 12 48 9 zeros.1.1.1.1.1.1.1.1.0, (first_digit 9 13 48 9 zeros.1.1.1.1.1.1.1.1.1.0, (first_digit 10 14 48 9 zeros.1.1.1.1.1.1.1.1.1.1.0, (first_digit 12 16 48 9 zeros.1.1.1.1.1.1.1.1.1.1.1.1.0, (first_digit 13 17 48 9 zeros.1.1.1.1.1.1.1.1.1.1.1.1.1.0, (first_digit 14 18 41 0 zeros.1.1.1.1.1.1.1.1.1.1.1.1.1.1.0, (first_digit 15 19 32 0 zeros.1.1.1.1.1.1.1.1.1.1.1.1.1.1.1.0, (last_digit 16 12 zeros.1.1.1.1.1.1.1.1.1.1.1.1.0, (last_digit 17 13 zeros.1.1.1.1.1.1.1.1.1.1.1.1.1.0, tt))))))))))))))));
    }
