-- The first difference of two meanings.
use Rattle.std.specs.Prelude.{◌≡◌, ◌≢◌, ℕ, List, Option, Some, None, take, slice_get}
use Rattle.uds_exchange.specs.Meaning.{ItemValue}

-- This is the first difference of two lists of items: none where they are equal; else the place below which they are,
-- and at which the items differ or one list ends.
abbrev pub IsFirstDifference : List ItemValue → List ItemValue → Option ℕ → Type 0
IsFirstDifference left right None = left ≡ right
IsFirstDifference left right (Some place) =
    (take place left ≡ take place right) × (slice_get left place ≢ slice_get right place)
