-- The least number of consecutive frames that hold what a first frame leaves.
use Rattle.std.proofs.Common.{◌≡◌, ℕ, zero, suc, ◌+◌, ◌-◌, ◌*◌, ◌<◌, ◌≤◌, ap, arith, inl, inr}
use Rattle.std.proofs.lemmas.Bool.{cases_lt}
use Rattle.isotp_receive.specs.Places.{IsConsecutiveCount}
use Rattle.isotp_receive.proofs.Products.{product-grows}

-- a number of frames that doesn't hold the message is smaller than the count
pub below-count : (f r len n k : ℕ) → IsConsecutiveCount f r len n → f + k * (r - 1) < len → k < n
below-count f r len n k least less = elim (cases_lt k n) [
  | inl below ↦ below
  | inr over ↦ (
      let sum : k ≡ n + (k - n) = omega arith in
      let product = ap (λ j. j * (r - 1)) sum in
      let enough = least.enough in absurd (omega arith))
]

-- counting up from n, where fewer than n don't hold it
count-up : (f r len fuel n : ℕ) → 2 ≤ r → len ≤ f + (n + fuel) * (r - 1) → ((k : ℕ) → k < n → f + k * (r - 1) < len) → (m : ℕ) × IsConsecutiveCount f r len m
count-up f r len zero n wide enough fewer =
    (n, record { enough = (let same : n + 0 ≡ n = omega arith in let product = ap (λ j. j * (r - 1)) same in omega arith); fewer = fewer })
count-up f r len (suc fuel) n wide enough fewer = elim (cases_lt (f + n * (r - 1)) len) [
  | inl short ↦ (let sum : n + suc fuel ≡ n + 1 + fuel = omega arith in
      let product = ap (λ j. j * (r - 1)) sum in
      count-up f r len fuel (n + 1) wide (omega arith) (λ k less. elim (cases_lt k n) [
        | inl below ↦ fewer k below
        | inr least ↦ (let same : k ≡ n = omega arith in let product_here = ap (λ j. j * (r - 1)) same in omega arith)
      ]))
  | inr holds ↦ (n, record { enough = holds; fewer = fewer })
]

pub count-exists : (f r len : ℕ) → 2 ≤ r → (n : ℕ) × IsConsecutiveCount f r len n
count-exists f r len wide =
    let enough = product-grows len (r - 1) (omega arith) in
    let none : 0 + len ≡ len = omega arith in
    let product = ap (λ j. j * (r - 1)) none in
    count-up f r len len 0 wide (omega arith) (λ k less. absurd (omega arith))
