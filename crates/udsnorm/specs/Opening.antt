-- What the system says of the files of logs.
use Rattle.std.specs.Prelude.{ℕ, List}
use Rattle.command_line.specs.declared.open_faults.OpenFault.{OpenFault}

-- Something that the system says: that it opened this file by this name; that it can open none by this name, and why;
-- that these two files are one stream, or that they are not; that a file is one stream with that of this name, or is not.
pub data Saying (F : Type 0) : Type 0 where
  opened : List ℕ → F → Saying F
  refused : List ℕ → OpenFault → Saying F
  one_stream : F → F → Saying F
  two_files : F → F → Saying F
  shared : F → List ℕ → Saying F
  apart : F → List ℕ → Saying F
