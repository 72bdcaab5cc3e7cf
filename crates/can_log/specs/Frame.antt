-- What a contract sees of a frame, and which frames there are (ISO 11898-1).
use Rattle.std.specs.Prelude.{ℕ, ◌<◌, ◌≤◌, List, length, ⊤}
use Rattle.std.specs.List.{AllByRecursion}
use Rattle.can_log.specs.declared.frame.Id.{Id}
use Rattle.can_log.specs.declared.frame.Id.TheVariants as id
use Rattle.can_log.specs.declared.frame.Kind.{Kind}
use Rattle.can_log.specs.declared.frame.Kind.TheVariants as kind

-- a frame, whatever holds its bytes
pub record FrameValue : Type 0 where
  pub id : Id
  pub kind : Kind
  pub bytes : List ℕ

-- each of the numbers is a byte
abbrev pub AreBytes : List ℕ → Type 0
AreBytes numbers = AllByRecursion (λ b. b < 256) numbers

-- how many data bytes a frame of the kind carries at most
abbrev pub most_bytes : Kind → ℕ
most_bytes kind.Classic = 8
most_bytes kind.Fd = 64
most_bytes kind.Remote = 0

-- an identifier that a bus carries: a base one has 11 bits, an extended one 29
abbrev pub IsCanIdentifier : Id → Type 0
IsCanIdentifier (id.Std number) = number ≤ 0x7FF
IsCanIdentifier (id.Ext number) = number ≤ 0x1FFFFFFF

-- an identifier that a log spells: a base one has 11 bits, and an extended one any value
abbrev pub IsIdentifier : Id → Type 0
IsIdentifier (id.Std number) = number ≤ 0x7FF
IsIdentifier (id.Ext number) = ⊤

-- there is a frame with these parts
pub record IsFrame (id : Id) (kind : Kind) (bytes : List ℕ) : Type 0 where
  pub identifier : IsIdentifier id
  pub data_length : length bytes ≤ most_bytes kind
