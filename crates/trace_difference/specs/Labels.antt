-- The names of files in a text that `patch` and `git apply` read.
use Prim.Native.Char.{code}
use Rattle.std.specs.Prelude.{ℕ, ◌+◌, ◌/◌, ◌%◌, ◌==◌, ◌&&◌, ◌||◌, nat_le, List, [], ◌∷◌, ◌++◌, codes, if◌then◌else◌}
use Rattle.std.specs.List.{flat_map}
use Rattle.line_text.specs.Quoted.{is_plain_name}

-- the digit of a number below eight
abbrev pub octal_digit : ℕ → ℕ
octal_digit n = code "0" + n

-- a byte between quotes, as C has it: a backslash before a quote and a backslash, and three octal digits behind one in
-- place of a byte that is not printable
abbrev pub escaped : ℕ → List ℕ
escaped b =
    if b == code "\"" || b == code "\\" then code "\\" ∷ b ∷ []
    else if nat_le 32 b && nat_le b 126 then b ∷ []
    else code "\\" ∷ octal_digit (b / 64) ∷ octal_digit (b / 8 % 8) ∷ octal_digit (b % 8) ∷ []

-- a name between quotes
abbrev pub quoted : List ℕ → List ℕ
quoted name = codes "\"" ++ flat_map escaped name ++ codes "\""

-- A name as it is where it is plain, and else between quotes: so no byte of it begins a line or reaches a terminal as
-- it is.
abbrev pub label : List ℕ → List ℕ
label name = if is_plain_name name then name else quoted name
