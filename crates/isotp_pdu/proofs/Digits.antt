-- The four bytes of a number.
use Rattle.std.proofs.Common.{◌≡◌, ℕ, ◌+◌, ◌*◌, ◌/◌, ◌%◌, ◌<◌, ◌^◌, arith}

pub digits : (a b c d : ℕ) → a < 256 → b < 256 → c < 256 → d < 256
    → ((((a * 256 + b) * 256 + c) * 256 + d) / 2 ^ 24 ≡ a)
    × ((((a * 256 + b) * 256 + c) * 256 + d) / 2 ^ 16 % 256 ≡ b)
    × ((((a * 256 + b) * 256 + c) * 256 + d) / 2 ^ 8 % 256 ≡ c)
    × ((((a * 256 + b) * 256 + c) * 256 + d) % 256 ≡ d)
digits a b c d p q r t = (omega arith, omega arith, omega arith, omega arith)

pub same_digits : (a b : ℕ) → a / 2 ^ 24 ≡ b / 2 ^ 24 → a / 2 ^ 16 % 256 ≡ b / 2 ^ 16 % 256
    → a / 2 ^ 8 % 256 ≡ b / 2 ^ 8 % 256 → a % 256 ≡ b % 256 → a ≡ b
same_digits a b first_digit second third fourth = omega arith
