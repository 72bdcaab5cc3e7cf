-- A mask, and what it makes of the bytes behind a prefix.
use Rattle.std.specs.Prelude.{ℕ, Bool, List, [], ◌∷◌, length, take, if◌then◌else◌}

-- What stands behind a prefix: of each place whether its byte is masked, and whether what follows the last one is cut
-- off.
pub record MaskValue : Type 0 where
  pub places : List Bool
  pub cuts : Bool

-- bytes with 0 at each masked place; there may be fewer bytes than places
abbrev pub masked_bytes : List Bool → List ℕ → List ℕ
masked_bytes [] bytes = bytes
masked_bytes (is_masked ∷ places) [] = []
masked_bytes (is_masked ∷ places) (byte ∷ bytes) = (if is_masked then 0 else byte) ∷ masked_bytes places bytes

-- what a mask leaves of the bytes behind a prefix: those of its places where it cuts off the others, else all
abbrev pub left_by : MaskValue → List ℕ → List ℕ
left_by mask bytes = if mask.cuts then take (length mask.places) bytes else bytes

-- what a mask makes of the bytes behind a prefix
abbrev pub masked : MaskValue → List ℕ → List ℕ
masked mask bytes = masked_bytes mask.places (left_by mask bytes)
