-- The places of a mask as the bits of a number, the first place the lowest bit.
use Prim.Native.Nat.{zero, suc}
use Rattle.std.specs.Prelude.{◌≡◌, ℕ, ◌+◌, ◌*◌, ◌/◌, ◌%◌, ◌≤◌, ◌==◌, min, Bool, List, [], ◌∷◌, length, refl, if◌then◌else◌}
use Rattle.std.proofs.Common.{ap}
use Rattle.uds_rules.specs.Mask.{MaskValue}

-- so many places by the lowest bits of a number
abbrev pub places_of : ℕ → ℕ → List Bool
places_of zero number = []
places_of (suc count) number = (number % 2 == 1) ∷ places_of count (number / 2)

-- the number with these bits
abbrev pub number_of : List Bool → ℕ
number_of [] = 0
number_of (is_masked ∷ places) = (if is_masked then 1 else 0) + 2 * number_of places

-- A number has no bits but those of so many places.
pub record ArePlaces (count masked : ℕ) : Type 0 where
  pub most : count ≤ 64
  pub number : number_of (places_of count masked) ≡ masked

-- how many of so many bytes behind a prefix a mask leaves
abbrev pub left_count : MaskValue → ℕ → ℕ
left_count mask count = if mask.cuts then min count (length mask.places) else count

-- as many places as are counted
pub places_length : (count number : ℕ) → length (places_of count number) ≡ count
places_length zero number = refl
places_length (suc count) number = ap (λ n. suc n) (places_length count (number / 2))
