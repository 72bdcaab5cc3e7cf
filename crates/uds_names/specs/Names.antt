-- Tables of names: what a number is called.
use Rattle.std.specs.Prelude.{ℕ, ◌==◌, ◌&&◌, Bool, List, [], ◌∷◌, Option, Some, None, nat_le, if◌then◌else◌}

-- a row of a table: a number and its name
pub record Named : Type 0 where
  pub number : ℕ
  pub name : List ℕ

-- a row of this number and this name
abbrev pub named : ℕ → List ℕ → Named
named number name = record { number = number; name = name }

-- the name of a number, if the table has one
abbrev pub name_in : List Named → ℕ → Option (List ℕ)
name_in [] number = None
name_in (row ∷ rows) number = if number == row.number then Some row.name else name_in rows number

-- the number is one of those from the first to the last
abbrev pub is_within : ℕ → ℕ → ℕ → Bool
is_within first last number = nat_le first number && nat_le number last
