-- Bytes as letters, where they may be text.
use Prim.Native.Char.{code}
use Rattle.std.specs.Prelude.{ℕ, Bool, false, ◌&&◌, ◌||◌, ◌==◌, List, [], ◌∷◌, ◌++◌, codes, nat_le, if◌then◌else◌}
use Rattle.std.specs.List.{flat_map}

-- the byte is one of those from `least` to `most`
abbrev pub is_within : ℕ → ℕ → ℕ → Bool
is_within least most b = nat_le least b && nat_le b most

-- the byte is a digit or a letter of ASCII
abbrev pub is_letter : ℕ → Bool
is_letter b = is_within (code "0") (code "9") b || (is_within (code "A") (code "Z") b || is_within (code "a") (code "z") b)

-- the byte is one of the signs that are shown; none of them has a meaning in HTML
abbrev pub is_sign : ℕ → Bool
is_sign b = b == code "-" || (b == code "." || (b == code "/" || (b == code ":" || b == code "_")))

-- the byte is shown as it is, and is no blank
abbrev pub is_mark : ℕ → Bool
is_mark b = is_letter b || is_sign b

-- the first four of these bytes are shown as they are, and none of them is a blank
abbrev pub begins_with_word : List ℕ → Bool
begins_with_word (a ∷ b ∷ c ∷ d ∷ rest) = is_mark a && (is_mark b && (is_mark c && is_mark d))
begins_with_word shorter = false

-- four bytes in a row are shown as they are, without a blank: all may be text
abbrev pub has_word : List ℕ → Bool
has_word [] = false
has_word (b ∷ rest) = begins_with_word (b ∷ rest) || has_word rest

-- what is shown for a byte among others that may be text: itself, or a dot
abbrev pub shown_byte : ℕ → ℕ
shown_byte b = if is_mark b || b == code " " then b else code "."

-- the text of what is shown for a byte
abbrev pub letter_text : ℕ → List ℕ
letter_text b = shown_byte b ∷ []

-- the text of what is shown for each of these bytes
abbrev pub letters : List ℕ → List ℕ
letters bytes = flat_map letter_text bytes

-- these bytes as letters, in grey
abbrev pub grey_letters : List ℕ → List ℕ
grey_letters bytes = codes " <samp>" ++ letters bytes ++ codes "</samp>"

-- these bytes as letters, in grey, where they may be text
abbrev pub letters_text : List ℕ → List ℕ
letters_text bytes = if has_word bytes then grey_letters bytes else []

-- the same of the last bytes of a message, behind which it may be cut off
abbrev pub last_letters : Bool → List ℕ → List ℕ
last_letters is_cut bytes =
    if has_word bytes then codes " <samp>" ++ letters bytes ++ (if is_cut then codes "*" else []) ++ codes "</samp>" else []
