-- The names of files as a hint has them.
use Prim.Native.Char.{code}
use Rattle.std.specs.Prelude.{ℕ, ◌==◌, List, [], ◌∷◌, ◌++◌, codes, Option, Some, None, if◌then◌else◌}
use Rattle.line_text.specs.Quoted.{quoted}

-- the name of a log, which may have none
abbrev pub log_name : Option (List ℕ) → List ℕ
log_name None = codes "standard input"
log_name (Some name) = quoted name

-- what stands between a command and a name: `--`, too, where it begins with a dash, since it is no option behind that
abbrev pub before_name : List ℕ → List ℕ
before_name (b ∷ rest) = if b == code "-" then codes " -- " else codes " "
before_name [] = codes " "

-- the name of a log behind a command, where it has one: standard input has none
abbrev pub behind_command : Option (List ℕ) → List ℕ
behind_command None = []
behind_command (Some name) = before_name name ++ quoted name
