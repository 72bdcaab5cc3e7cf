-- A prefix in an array of 16 bytes, with zeros behind it.
use Rattle.std.specs.Prelude.{◌≡◌, ℕ, ◌-◌, ◌≤◌, List, ◌++◌, length, take}
use Rattle.std.proofs.Common.{replicate, length-take, arith}

-- bytes with zeros behind them, 16 in all
abbrev pub padded : List ℕ → List ℕ
padded bytes = bytes ++ replicate (16 - length bytes) 0

-- the first so many bytes are a prefix, and zeros stand behind it
pub record IsPrefixHeld (count : ℕ) (bytes : List ℕ) : Type 0 where
  pub least : 1 ≤ count
  pub most : count ≤ 16
  pub whole : length bytes ≡ 16
  pub filled : padded (take count bytes) ≡ bytes

-- as many bytes as are held
pub held_length : (count : ℕ) (bytes : List ℕ) → IsPrefixHeld count bytes → length (take count bytes) ≡ count
held_length count bytes held =
    let of_take = length-take count bytes in
    let most = held.most in
    let whole = held.whole in
    omega arith
