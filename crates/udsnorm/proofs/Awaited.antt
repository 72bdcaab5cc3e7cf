-- An error output that was told one line.
use Rattle.std.proofs.Common.{◌≡◌, ℕ, List, inl, inr, arith}
use Rattle.trace_io.specs.Counted.{IsLowCount}
use Rattle.udsnorm.specs.Telling.{TookText}

-- one that has not failed has failed once at most then
pub low_after : (text : List ℕ) (failures failures_after : ℕ) (old new : List ℕ) → failures ≡ 0 → TookText text failures failures_after old new → IsLowCount failures_after
low_after text failures failures_after old new none (inl whole) = let same = whole.0 in omega (arith, none, same)
low_after text failures failures_after old new none (inr front) = let more = front.0 in omega (arith, none, more)
