-- Messages that are kept in blocks of bytes: where one lies, and that it stays there when more are kept.
use Rattle.std.specs.Prelude.{◌≡◌, ℕ, ◌+◌, ◌<◌, ◌≤◌, List, [], ◌++◌, take, drop, length, slice_index_or}
use Rattle.uds_exchange.specs.declared.messages.Span.{Span}

-- the block of this number
abbrev pub block_at : List (List ℕ) → ℕ → List ℕ
block_at blocks number = slice_index_or blocks number []

-- the bytes of the message that lies in this place
abbrev pub bytes_at : List (List ℕ) → Span → List ℕ
bytes_at blocks span = take span.len (drop span.start (block_at blocks span.block))

-- this place of a message is in a block, with all its bytes
pub record IsInside (blocks : List (List ℕ)) (span : Span) : Type 0 where
  pub block : span.block < length blocks
  pub end : span.start + span.len ≤ length (block_at blocks span.block)

-- this message lies in this place
pub record Holds (blocks : List (List ℕ)) (span : Span) (message : List ℕ) : Type 0 where
  pub inside : IsInside blocks span
  pub bytes : bytes_at blocks span ≡ message

-- the blocks have gone on: there may be more, and more bytes behind those of each
pub record GoesOn (old new : List (List ℕ)) : Type 0 where
  pub blocks : length old ≤ length new
  pub bytes : (number : ℕ) → (more : List ℕ) × (block_at new number ≡ block_at old number ++ more)

-- what lies in a block lies there still where the blocks have gone on, whatever was laid since
abbrev pub MessageStays : Type 0
MessageStays = (old new : List (List ℕ)) → GoesOn old new → (span : Span) (message : List ℕ)
    → Holds old span message → Holds new span message

-- this message was laid in this place, and what lay in the blocks stays
pub record Lays (old : List (List ℕ)) (span : Span) (message : List ℕ) (new : List (List ℕ)) : Type 0 where
  pub goes_on : GoesOn old new
  pub holds : Holds new span message
