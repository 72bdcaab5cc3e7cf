-- The numbers of lines, one after another.
use Rattle.std.proofs.Common.{◌≡◌, ℕ, suc, ◌+◌, ◌-◌, ◌≤◌, ◌<◌, [], ◌∷◌, arith, ap}
use Rattle.std.specs.List.{range_with_len}

pub range-first : (at end : ℕ) → at < end → range_with_len at (end - at) ≡ at ∷ range_with_len (at + 1) (end - (at + 1))
range-first at end below = let next : end - at ≡ suc (end - (at + 1)) = omega arith in ap (range_with_len at) next

pub range-none : (at end : ℕ) → end ≤ at → range_with_len at (end - at) ≡ []
range-none at end over = let none : end - at ≡ 0 = omega arith in ap (range_with_len at) none
