-- Texts written to a target, by what it has taken before and after.
use Rattle.std.specs.Prelude.{◌≡◌, ℕ, List, ◌++◌, Result, Ok, Err}

-- new is old, followed by a front of the text
pub record HasFront (old text new : List ℕ) : Type 0 where
  pub front : List ℕ
  pub rest : List ℕ
  pub parts : text ≡ front ++ rest
  pub wrote : new ≡ old ++ front

-- what was written of a text: all of it, or a front of it where writing failed
abbrev pub HasWritten : {A E : Type 0} → Result A E → List ℕ → List ℕ → List ℕ → Type 0
HasWritten (Ok value) old text new = new ≡ old ++ text
HasWritten (Err fault) old text new = HasFront old text new

-- What was written after `old` is the text without this rest.
pub record IsWritten (old text new rest : List ℕ) : Type 0 where
  pub front : List ℕ
  pub parts : text ≡ front ++ rest
  pub wrote : new ≡ old ++ front
