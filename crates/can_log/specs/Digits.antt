-- Numbers as digits, the most significant first.
use Prim.Native.Char.{code}
use Prim.Native.Nat.{zero, suc}
use Rattle.std.specs.Prelude.{ℕ, ◌+◌, ◌-◌, ◌/◌, ◌%◌, List, [], ◌∷◌, ◌++◌, nat_lt, if◌then◌else◌}

-- the digit of a number below 16, in upper case
abbrev pub digit : ℕ → ℕ
digit number = if nat_lt number 10 then code "0" + number else code "A" + (number - 10)

-- the last `width` digits of a number in base `radix`
unfoldable pub digits : ℕ → ℕ → ℕ → List ℕ
digits radix zero number = []
digits radix (suc width) number = digits radix width (number / radix) ++ digit (number % radix) ∷ []

-- the last `width` decimal digits
abbrev pub decimal : ℕ → ℕ → List ℕ
decimal width number = digits 10 width number

-- the last `width` hexadecimal digits
abbrev pub hexadecimal : ℕ → ℕ → List ℕ
hexadecimal width number = digits 16 width number
