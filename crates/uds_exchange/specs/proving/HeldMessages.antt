-- Devices of proof: messages that are held, by where their bytes lie.
use Rattle.std.specs.Prelude.{◌≡◌, ℕ, List, [], ◌∷◌, map, sum_by}
use Rattle.direction.specs.Dir.{Message}
use Rattle.uds_exchange.specs.declared.held.HeldMessage.{HeldMessage}
use Rattle.uds_exchange.specs.declared.messages.Span.{Span}
use Rattle.uds_exchange.specs.Blocks.{bytes_at, IsInside}
use Rattle.uds_exchange.specs.Order.{message_length}

-- where the bytes of a held message lie
abbrev pub span_of : HeldMessage → Span
span_of held = record { len = held.len; block = held.block; start = held.start }

-- a held message, of which the bytes lie in these blocks
abbrev pub message_at : List (List ℕ) → HeldMessage → Message
message_at blocks held = (held.dir, bytes_at blocks (span_of held))

-- the held messages, of which the bytes lie in these blocks
abbrev pub messages_at : List (List ℕ) → List HeldMessage → List Message
messages_at blocks held = map (message_at blocks) held

-- each of the held messages lies in a block
abbrev pub AreHeldIn : List (List ℕ) → List HeldMessage → Type 0
AreHeldIn blocks [] = Unit {0}
AreHeldIn blocks (first ∷ later) = IsInside blocks (span_of first) × AreHeldIn blocks later

-- each of the held messages lies in a block, and this is the sum of their lengths
pub record AreHeldAndSummed (blocks : List (List ℕ)) (held : List HeldMessage) (total : ℕ) : Type 0 where
  pub inside : AreHeldIn blocks held
  pub sum : total ≡ sum_by message_length (messages_at blocks held)
