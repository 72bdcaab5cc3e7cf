-- The two directions of a diagnostic session, and a message of one of them.
use Rattle.std.specs.Prelude.{ℕ, List}
use Rattle.direction.specs.declared.Dir.{Dir}
use Rattle.direction.specs.declared.Dir.TheVariants as dir

-- the other of the two
abbrev pub other_direction : Dir → Dir
other_direction dir.Tester = dir.Unit
other_direction dir.Unit = dir.Tester

-- a message and the side that sent it
abbrev pub Message : Type 0
Message = Dir × List ℕ
