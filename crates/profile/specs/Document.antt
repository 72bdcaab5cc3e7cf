-- The document that the text of a profile is.
use Rattle.std.specs.Prelude.{◌≡◌, ℕ, ◌+◌, ◌<◌, ◌≤◌, ◌==◌, ◌||◌, nat_lt, nat_le, List, [], ◌∷◌, length, take, Some, None, Result, Ok, Err, if◌then◌else◌}
use Rattle.std.specs.Str.{IsUtf8}
use Rattle.std.specs.BTreeMap.{BTreeMap}
use Rattle.std.specs.Prelude.{String}
use Rattle.std.specs.declared.alloc.Global.{Global}
use Rattle.toml.specs.Errors.{IsBlank}
use Rattle.toml.specs.Parse.{parse_document}
use Rattle.toml.specs.View.{table_view}
use Rattle.toml.specs.declared.value.Value.{Value}
use Rattle.profile.specs.declared.document.DocumentFault.{DocumentFault}
use Rattle.profile.specs.declared.document.DocumentFault.TheVariants as fault

-- Line and column of the place behind bytes, from this line and column on. A column counts characters: a byte that goes
-- on with one of UTF-8, of 80 to BF, counts nothing.
abbrev pub place_behind : ℕ → ℕ → List ℕ → ℕ × ℕ
place_behind line column [] = (line, column)
place_behind line column (byte ∷ rest) =
    if byte == 10 then place_behind (line + 1) 1 rest
    else if nat_lt byte 0x80 || nat_le 0xC0 byte then place_behind line (column + 1) rest
    else place_behind line column rest

-- line and column are those of a place in a text
abbrev pub IsPlaceIn : List ℕ → ℕ × ℕ → Type 0
IsPlaceIn text place = (count : ℕ) × (count ≤ length text) × (place ≡ place_behind 1 1 (take count text))

-- The document that a text is, or why it is none. Memory is refused only to a text that is not too long and has more than
-- white space and comments.
abbrev pub IsDocument : List ℕ → Result (BTreeMap (String Global) Value) DocumentFault → Type 0
IsDocument text (Ok table) = (length text ≤ 65536) × IsUtf8 text × (parse_document text ≡ Some (table_view table))
IsDocument text (Err fault.Memory) = (length text ≤ 65536) × (IsBlank text → ⊥)
IsDocument text (Err fault.TooLong) = 65536 < length text
IsDocument text (Err (fault.NotToml line column)) =
    (length text ≤ 65536) × (IsUtf8 text → parse_document text ≡ None) × IsPlaceIn text (line, column)
