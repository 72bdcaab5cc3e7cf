-- Devices of proof: how messages are laid into blocks.
use Rattle.std.specs.Prelude.{◌≡◌, ℕ, ◌<◌, ◌≤◌, List, length, map, Vec}
use Rattle.std.specs.declared.alloc.Global.{Global}
use Rattle.uds_exchange.specs.declared.messages.Span.{Span}
use Rattle.uds_exchange.specs.declared.messages.TheConstants.{LAST_START}
use Rattle.uds_exchange.specs.Blocks.{block_at}

-- the bytes of each block
abbrev pub block_bytes : List (Vec ℕ Global) → List (List ℕ)
block_bytes blocks = map (λ block. block.items) blocks

-- more bytes may be put behind those of the block of this number
pub record MayGoOn (blocks : List (List ℕ)) (number : ℕ) : Type 0 where
  pub block : number < length blocks
  pub start : length (block_at blocks number) ≤ LAST_START

-- a message of so many bytes lies in the block of this number, behind so many
pub record IsSpan (span : Span) (number before size : ℕ) : Type 0 where
  pub block : span.block ≡ number
  pub start : span.start ≡ before
  pub len : span.len ≡ size
