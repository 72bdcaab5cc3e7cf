-- Long names, which a narrow screen may part: before each capital behind a small letter.
use Prim.Native.Char.{code}
use Rattle.std.specs.Prelude.{ℕ, Bool, ◌&&◌, List, [], ◌∷◌, ◌++◌, codes, option_map, unwrap_or, if◌then◌else◌}
use Rattle.uds_message.specs.Tables.{code_name, service_row}
use Rattle.uds_names.specs.ResponseCodes.{response_code_name}
use Rattle.trace_text.specs.Words.{service_text}
use Rattle.shown_bytes.specs.Letters.{is_within}
use Rattle.shown_bytes.specs.StandardNames.{code_by}

-- a name may be parted before a letter, behind another one: before a capital behind a small one
abbrev pub parts_before : ℕ → ℕ → Bool
parts_before front letter = is_within (code "a") (code "z") front && is_within (code "A") (code "Z") letter

-- a letter of a name, behind another one: where the name may be parted before it, it says so
abbrev pub letter_behind : ℕ → ℕ → List ℕ
letter_behind front letter = (if parts_before front letter then codes "<wbr>" else []) ++ (letter ∷ [])

-- the letters of a name behind another one
abbrev pub letters_behind : ℕ → List ℕ → List ℕ
letters_behind front [] = []
letters_behind front (letter ∷ later) = letter_behind front letter ++ letters_behind letter later

-- a name that may be parted; no letter stands before it
abbrev pub parted_name : List ℕ → List ℕ
parted_name name = letters_behind 0 name

-- the name of a service, which may be parted, or its identifier where the table has none
abbrev pub parted_service : ℕ → List ℕ
parted_service service = unwrap_or (option_map parted_name (option_map (λ row. row.name) (service_row service))) (service_text service)

-- a response code of which `list` has no name: by the name that a page alone has for it, which may be parted
unfoldable pub further_code : ℕ → List ℕ
further_code why = code_by (option_map parted_name (response_code_name why)) why

-- the name of a response code, which may be parted, or what a page tells where `list` has none
abbrev pub parted_code : ℕ → List ℕ
parted_code why = unwrap_or (option_map parted_name (code_name why)) (further_code why)
