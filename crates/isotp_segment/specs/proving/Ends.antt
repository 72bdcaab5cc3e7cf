-- A device of proof: the bytes of a short message as the code gathers them, in eight lanes.
use Rattle.std.specs.Prelude.{ℕ, ◌-◌, ◌/◌, List, [], ◌∷◌, ◌++◌, length, take, drop, slice_index_or, nat_le, if◌then◌else◌}

-- the first four bytes and the last four; of fewer than four bytes the first, the one in the middle and the last
abbrev pub ends_of : List ℕ → List ℕ
ends_of message =
    if nat_le 4 (length message) then take 4 message ++ take 4 (drop (length message - 4) message)
    else slice_index_or message 0 0 ∷ slice_index_or message (length message / 2) 0
    ∷ slice_index_or message (length message - 1) 0 ∷ 0 ∷ 0 ∷ 0 ∷ 0 ∷ 0 ∷ []
