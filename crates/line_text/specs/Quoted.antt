-- Names as a shell has them.
use Prim.Native.Char.{code}
use Rattle.std.specs.Prelude.{ℕ, ◌/◌, ◌%◌, ◌==◌, ◌&&◌, ◌||◌, not, nat_le, Bool, List, [], ◌∷◌, ◌++◌, codes, length, if◌then◌else◌}
use Rattle.std.specs.Char.{is_ascii_alphanumeric}
use Rattle.std.specs.List.{flat_map, list_all}
use Rattle.can_log.specs.Digits.{digit}

-- one of the bytes that need no quotes: letters, digits and `./_-+:@%,=`
abbrev pub is_plain : ℕ → Bool
is_plain b =
    is_ascii_alphanumeric b || b == code "." || b == code "/" || b == code "_" || b == code "-" || b == code "+" || b == code ":" || b == code "@" || b == code "%" || b == code ","
    || b == code "="

-- a name of plain bytes alone, one at least, needs no quotes
abbrev pub is_plain_name : List ℕ → Bool
is_plain_name name = not (length name == 0) && list_all is_plain name

-- a printable byte of ASCII, a space among them, but neither `'` nor `\`
abbrev pub is_printable : ℕ → Bool
is_printable b = nat_le 32 b && nat_le b 126 && not (b == code "'") && not (b == code "\\")

-- a byte between `$'` and `'`: as it is where it is printable, and else `\xHH`
abbrev pub quoted_byte : ℕ → List ℕ
quoted_byte b = if is_printable b then b ∷ [] else code "\\" ∷ code "x" ∷ digit (b / 16) ∷ digit (b % 16) ∷ []

-- A name as it is, or as a shell has it between `$'` and `'`: so no name writes a control character.
abbrev pub quoted : List ℕ → List ℕ
quoted name = if is_plain_name name then name else codes "$'" ++ flat_map quoted_byte name ++ codes "'"
