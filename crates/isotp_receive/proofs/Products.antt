-- Products of numbers.
use Rattle.std.proofs.Common.{◌≡◌, ℕ, ◌+◌, ◌-◌, ◌*◌, ◌<◌, ◌≤◌, ap, arith, inl, inr}
use Rattle.std.proofs.lemmas.Bool.{cases_lt}

pub product-grows : (n w : ℕ) → 1 ≤ w → n ≤ n * w
product-grows n w h = (let sum : w ≡ 1 + (w - 1) = omega arith in let product = ap (λ v. n * v) sum in omega arith)

pub sum-grows : (n a b w : ℕ) → n + a * w ≤ n + (a + b) * w
sum-grows n a b w = omega arith

pub product-below : (q k b w : ℕ) → q * w + b < k * w → q < k
product-below q k b w h = elim (cases_lt q k) [
  | inl below ↦ below
  | inr over ↦ (let sum : q ≡ k + (q - k) = omega arith in let product = ap (λ j. j * w) sum in absurd (omega arith))
]
