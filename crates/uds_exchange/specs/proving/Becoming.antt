-- Devices of proof: what items become with more messages.
use Rattle.std.specs.Prelude.{◌≡◌, ℕ, List, slice_get, Option, Some, None}
use Rattle.uds_exchange.specs.Meaning.{ItemValue, exchange, stray}
use Rattle.uds_exchange.specs.Numbers.{IsBegunBy}

-- an item without an answer may get one, and each other item stays
abbrev pub Becomes : ItemValue → ItemValue → Type 0
Becomes (stray d bytes) later = later ≡ stray d bytes
Becomes (exchange request (Some reply)) later = later ≡ exchange request (Some reply)
Becomes (exchange request None) later = IsBegunBy request later

-- each of these items is, or has become, that in its place among the others
abbrev pub EachBecomes : List ItemValue → List ItemValue → Type 0
EachBecomes items later =
    (place : ℕ) (item : ItemValue) → slice_get items place ≡ Some item
    → (now : ItemValue) × (slice_get later place ≡ Some now) × Becomes item now
