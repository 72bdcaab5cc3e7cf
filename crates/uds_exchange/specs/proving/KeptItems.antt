-- Devices of proof: items by where their messages lie.
use Rattle.std.specs.Prelude.{ℕ, List, [], ◌∷◌, map, Option, Some, None, option_map}
use Rattle.uds_exchange.specs.declared.meaning.KeptItem.{KeptItem}
use Rattle.uds_exchange.specs.declared.meaning.KeptItem.TheVariants as kept
use Rattle.uds_exchange.specs.declared.messages.Span.{Span}
use Rattle.uds_exchange.specs.Meaning.{ItemValue, exchange, stray}
use Rattle.uds_exchange.specs.Blocks.{bytes_at, IsInside}

-- an item by where its messages lie
abbrev pub item_at : List (List ℕ) → KeptItem → ItemValue
item_at blocks (kept.Exchange request answer) = exchange (bytes_at blocks request) (option_map (bytes_at blocks) answer)
item_at blocks (kept.Stray dir span) = stray dir (bytes_at blocks span)

-- the items by where their messages lie
abbrev pub items_at : List (List ℕ) → List KeptItem → List ItemValue
items_at blocks items = map (item_at blocks) items

-- an answer lies in a block, if there is one
abbrev pub IsInsideIfAny : List (List ℕ) → Option Span → Type 0
IsInsideIfAny blocks None = Unit {0}
IsInsideIfAny blocks (Some span) = IsInside blocks span

-- the messages of an item lie in blocks
abbrev pub IsKeptIn : List (List ℕ) → KeptItem → Type 0
IsKeptIn blocks (kept.Exchange request answer) = IsInside blocks request × IsInsideIfAny blocks answer
IsKeptIn blocks (kept.Stray dir span) = IsInside blocks span

-- the messages of all items lie in blocks
abbrev pub AreKeptIn : List (List ℕ) → List KeptItem → Type 0
AreKeptIn blocks [] = Unit {0}
AreKeptIn blocks (first ∷ later) = IsKeptIn blocks first × AreKeptIn blocks later
