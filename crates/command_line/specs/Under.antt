-- The profile that the words of a run name, as a hint speaks of it.
use Rattle.std.specs.Prelude.{◌||◌, Bool, List, codes, is_some, Option, Some, None, option_map}
use Rattle.clap.specs.Walk.{Row, Text, first_of}
use Rattle.command_line.specs.declared.under.Under.{Under}

-- A profile that words name: its file, and whether an identifier stands beside it, as none does beside units.
pub record UnderValue : Type 0 where
  pub file : Text
  pub has_sides : Bool

-- the same as contracts see it
abbrev pub under_value : Under → UnderValue
under_value under = record { file = under.file.now; has_sides = under.has_sides }

-- the words have an identifier of tester or unit, or of functional requests
abbrev pub has_sides : List Row → Bool
has_sides rows =
    is_some (first_of (codes "tester") rows) || (is_some (first_of (codes "unit") rows) || is_some (first_of (codes "functional") rows))

-- the profile that the words of a command name, if they name one
abbrev pub under_in : Option (Text × List Row) → Option UnderValue
under_in None = None
under_in (Some found) = option_map (λ file. record { file = file; has_sides = has_sides found.1 }) (first_of (codes "profile") found.1)
