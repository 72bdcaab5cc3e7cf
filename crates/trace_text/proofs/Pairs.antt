-- The table of the digits of the numbers below 100.
use Rattle.std.proofs.Common.{◌≡◌, ℕ, zero, suc, ◌+◌, ◌-◌, ◌*◌, ◌/◌, ◌%◌, ◌<◌, Bool, true, ◌&&◌, T, eqb, [], ◌∷◌, get_or, ap₂, inl, inr, arith, eq-zero-or-pos, eqb→eq}
use lib.Ieee.Fits.{and_l, and_r}
use Rattle.can_log.specs.Digits.{digit, digits, decimal}
use Rattle.trace_text.specs.declared.digits.TheConstants.{PAIRS}

-- the table has two digits of each number below a bound
abbrev are_pairs : ℕ → Bool
are_pairs zero = true
are_pairs (suc p) = (eqb (get_or PAIRS (2 * p) 0) (digit (p / 10 % 10)) && eqb (get_or PAIRS (2 * p + 1) 0) (digit (p % 10))) && are_pairs p

-- and so of each of these numbers
below : (n p : ℕ) → T (are_pairs n) → p < n → (get_or PAIRS (2 * p) 0 ≡ digit (p / 10 % 10)) × (get_or PAIRS (2 * p + 1) 0 ≡ digit (p % 10))
below zero p t h = absurd (omega arith)
below (suc n) p t h =
    elim (eq-zero-or-pos (n - p)) [
      | inl z ↦ let e : p ≡ n = omega arith in let a = and_l _ (are_pairs n) t in rw e (eqb→eq _ _ (and_l _ _ a), eqb→eq _ _ (and_r _ _ a))
      | inr g ↦ below n p (and_r _ (are_pairs n) t) (omega arith)
    ]

-- the two digits that the table has of a number
pub pair_at : (p : ℕ) → p < 100 → get_or PAIRS (2 * p) 0 ∷ get_or PAIRS (2 * p + 1) 0 ∷ [] ≡ decimal 2 p
unfolding digits
pair_at p h = let both = below 100 p tt h in ap₂ (λ a b. a ∷ b ∷ []) both.0 both.1
