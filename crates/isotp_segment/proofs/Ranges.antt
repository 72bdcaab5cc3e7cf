-- Numbers one after another, as positions: they rise, which of them are there, and the last.
use Rattle.std.proofs.Common.{◌≡◌, ℕ, zero, suc, ◌+◌, ◌<◌, ◌≤◌, ◌∙◌, arith, inl, inr}
use Rattle.std.specs.List.{range_with_len}
use Rattle.std.proofs.lemmas.Bool.{cases_lt}
use Rattle.isotp_receive.specs.Recording.{IsRisingFrom, IsIn, last_or}

-- numbers one after another rise from any that is no greater
pub rising-range : (k a c : ℕ) → k ≤ a → IsRisingFrom k (range_with_len a c)
rising-range k a zero le = tt
rising-range k a (suc c) le = (le, rising-range (suc a) (a + 1) c (omega arith))

-- one of them is at least the first and below the end
pub range-bounds : (p a c : ℕ) → IsIn p (range_with_len a c) → (a ≤ p) × (p < a + c)
range-bounds p a zero i = absurd i
range-bounds p a (suc c) (inl e) = (omega arith, omega arith)
range-bounds p a (suc c) (inr i) = (let h = range-bounds p (a + 1) c i in (omega arith, omega arith))

-- and each such number is one of them
pub in-range : (p a c : ℕ) → a ≤ p → p < a + c → IsIn p (range_with_len a c)
in-range p a zero low high = absurd (omega arith)
in-range p a (suc c) low high = elim (cases_lt a p) [
  | inl above ↦ inr (in-range p (a + 1) c (omega arith) (omega arith))
  | inr least ↦ inl (omega arith)
]

-- the last of them
pub last_or-range : (k a c : ℕ) → last_or k (range_with_len a (suc c)) ≡ a + c
last_or-range k a zero = omega arith
last_or-range k a (suc c) = (let e : a + 1 + c ≡ a + suc c = omega arith in last_or-range a (a + 1) c ∙ e)
