-- The names of logs, as a page may hold them: of HTML nothing but text, whatever a file is called.
use Prim.Native.Char.{code}
use Rattle.std.specs.Prelude.{ℕ, ◌==◌, ◌++◌, List, [], ◌∷◌, codes, if◌then◌else◌}
use Rattle.std.specs.List.{flat_map}
use Rattle.can_log.specs.Digits.{hexadecimal}
use Rattle.shown_bytes.specs.Letters.{is_within}

-- a byte by its number: % and two digits
abbrev pub numbered_byte : ℕ → List ℕ
numbered_byte b = codes "%" ++ hexadecimal 2 b

-- a byte of a name that has no name in HTML: printable ASCII as it is, and every other byte by its number
abbrev pub plain_byte : ℕ → List ℕ
plain_byte b = if is_within (code " ") (code "~") b then b ∷ [] else numbered_byte b

-- a byte of a name: each of the five signs that mean something in HTML by its name there
abbrev pub name_byte : ℕ → List ℕ
name_byte b =
    if b == code "&" then codes "&amp;" else if b == code "<" then codes "&lt;" else if b == code ">" then codes "&gt;"
    else if b == code "\"" then codes "&quot;" else if b == code "'" then codes "&#39;"
    else plain_byte b

-- the name of a log, as a page may hold it
abbrev pub name_text : List ℕ → List ℕ
name_text name = flat_map name_byte name
