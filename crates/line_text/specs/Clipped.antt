-- What a file says, in a line about it.
use Prim.Native.Char.{code}
use Rattle.std.specs.Prelude.{ℕ, ◌==◌, ◌&&◌, not, nat_le, Bool, List, ◌++◌, codes, take, if◌then◌else◌}
use Rattle.std.specs.List.{list_all}
use Rattle.line_text.specs.Quoted.{quoted}

-- no more of it than this stands in a line
abbrev pub clipped : List ℕ → List ℕ
clipped text = quoted (take 80 text)

-- a byte that stands as it is between double quotes: printable ASCII but these
abbrev pub is_quotable : ℕ → Bool
is_quotable b = nat_le 32 b && nat_le b 126 && not (b == code "\"")

-- a text between double quotes, or else as a name
abbrev pub as_written : List ℕ → List ℕ
as_written text = if list_all is_quotable text then codes "\"" ++ text ++ codes "\"" else quoted text

-- the same of no more of it than this
abbrev pub clipped_as_written : List ℕ → List ℕ
clipped_as_written text = as_written (take 80 text)
