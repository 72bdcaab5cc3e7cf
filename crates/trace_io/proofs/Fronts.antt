-- How a byte without end goes on after a read.
use Rattle.std.proofs.Common.{◌≡◌, ℕ, ◌+◌, ◌<◌, List, [], ◌∷◌, ◌++◌, length, take, replicate, set, arith}
use Rattle.std.proofs.lemmas.Grind.{replicate_next}

-- one byte was put at the front of a buffer
pub one_more : (buf : List ℕ) (byte n : ℕ) → 0 < length buf
    → replicate (n + 1) byte ≡ replicate n byte ++ take 1 (set buf 0 byte)
one_more [] byte n some = absurd (omega arith)
one_more (b ∷ bytes) byte n some = replicate_next n byte
