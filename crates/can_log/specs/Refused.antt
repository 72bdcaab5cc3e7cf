-- Where the bytes of a line are refused: at the first byte that no line can have there.
use Prim.Native.Char.{code}
use Rattle.std.specs.Prelude.{◌≡◌, ◌≢◌, ℕ, ◌+◌, ◌≤◌, List, [], ◌∷◌, ◌++◌, length, Option}
use Rattle.std.specs.List.{AllByRecursion}
use Rattle.can_log.specs.declared.frame.Stamped.{Stamped}
use Rattle.can_log.specs.Line.{LineMeans, IsNoLine}

-- no byte is a line feed
abbrev pub NoLineFeed : List ℕ → Type 0
NoLineFeed bytes = AllByRecursion (λ b. b ≢ code "\n") bytes

-- some bytes, 16 at most, make a line of it: what is missing of `(0.000000) a 000#` after its first byte
abbrev pub HasCompletion : List ℕ → Type 0
HasCompletion bytes = (more : List ℕ) × (what : Option Stamped) × (length more ≤ 16) × LineMeans (bytes ++ more) what

-- no bytes, 16 at most, make a line of it
abbrev pub HasNoCompletion : List ℕ → Type 0
HasNoCompletion bytes = (more : List ℕ) (what : Option Stamped) → length more ≤ 16 → ¬ LineMeans (bytes ++ more) what

-- The byte at this column, counted from 1, is the refused one of a line and what follows it: each front of the bytes
-- before it has a completion, and it is a line feed after bytes that are no line, or another byte that no line has there.
pub record IsRefusedPlace (bytes : List ℕ) (column : ℕ) : Type 0 where
  pub text : List ℕ
  pub bad : ℕ
  pub after : List ℕ
  pub parts : bytes ≡ text ++ bad ∷ after
  pub at : column ≡ length text + 1
  pub legal : (front more : List ℕ) → text ≡ front ++ more → HasCompletion front
  pub line_feed : bad ≡ code "\n" → IsNoLine text
  pub other : bad ≢ code "\n" → HasNoCompletion (text ++ bad ∷ [])

-- Every byte passes, and yet the bytes are no line: the place is after the last one.
pub record IsUnfinishedAt (bytes : List ℕ) (column : ℕ) : Type 0 where
  pub at : column ≡ length bytes + 1
  pub legal : (front more : List ℕ) → bytes ≡ front ++ more → HasCompletion front
  pub no_line : IsNoLine bytes
