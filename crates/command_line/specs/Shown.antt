-- The text that is told of wrong words: it writes no control character.
use Prim.Native.Char.{code}
use Rattle.std.specs.Prelude.{◌≡◌, ℕ, ◌/◌, ◌%◌, ◌==◌, ◌&&◌, ◌||◌, nat_le, Bool, true, List, [], ◌∷◌, if◌then◌else◌}
use Rattle.std.specs.List.{flat_map, list_all}
use Rattle.can_log.specs.Digits.{digit}

-- printable ASCII, a space among it
abbrev pub is_printable_ascii : ℕ → Bool
is_printable_ascii b = nat_le 32 b && nat_le b 126

-- that, or the end of a line
abbrev pub is_shown : ℕ → Bool
is_shown b = b == code "\n" || is_printable_ascii b

-- any other byte is escaped: `\xHH`
abbrev pub escaped : ℕ → List ℕ
escaped b = code "\\" ∷ code "x" ∷ digit (b / 16) ∷ digit (b % 16) ∷ []

-- a byte as it is shown
abbrev pub shown_byte : ℕ → List ℕ
shown_byte b = if is_shown b then b ∷ [] else escaped b

-- a text as it is shown
abbrev pub shown : List ℕ → List ℕ
shown text = flat_map shown_byte text

-- the text has printable ASCII and line feeds alone
abbrev pub IsShown : List ℕ → Type 0
IsShown text = list_all is_shown text ≡ true
