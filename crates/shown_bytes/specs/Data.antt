-- The bytes of a message that rules have left, with blanks between, as far as a row shows them.
use Rattle.std.specs.Prelude.{ℕ, ◌-◌, ◌==◌, ◌&&◌, Bool, false, List, [], ◌∷◌, ◌++◌, codes, length, take, drop, replicate, nat_le, Option, Some, None, if◌then◌else◌}
use Rattle.std.specs.Fmt.{decimal}
use Rattle.std.specs.List.{flat_map}
use Rattle.can_log.specs.Digits.{hexadecimal}
use Rattle.trace_text.specs.RuledText.{place_text}
use Rattle.uds_rules.specs.Mask.{MaskValue}
use Rattle.uds_rules.specs.Rule.{RuleValue, mask_of}
use Rattle.shown_bytes.specs.Letters.{last_letters, letters_text}
use Rattle.shown_bytes.specs.StandardNames.{names_text}
use Rattle.shown_bytes.specs.TroubleCodes.{trouble_text}

-- a blank and two digits for a byte
abbrev pub byte_behind : ℕ → List ℕ
byte_behind b = codes " " ++ hexadecimal 2 b

-- a blank and two digits for each of these bytes
abbrev pub bytes_behind : List ℕ → List ℕ
bytes_behind bytes = flat_map byte_behind bytes

-- two digits for each of these bytes, and a blank between two of them
abbrev pub bytes_apart : List ℕ → List ℕ
bytes_apart [] = []
bytes_apart (b ∷ rest) = hexadecimal 2 b ++ bytes_behind rest

-- Bytes of which a mask changed some: of each, as far as the places of the mask go, whether it is masked.

-- the marks of the bytes of a message with this mask from this place on
abbrev pub marks_of : MaskValue × ℕ → List Bool
marks_of found = replicate found.1 false ++ found.0.places

-- whether the first byte is masked, by the marks of some bytes
abbrev pub is_marked : List Bool → Bool
is_marked [] = false
is_marked (mark ∷ marks) = mark

-- the marks of the bytes behind it
abbrev pub marks_behind : List Bool → List Bool
marks_behind [] = []
marks_behind (mark ∷ marks) = marks

-- a blank, and two digits or the mark of a masked byte, for each of these bytes
abbrev pub marked_behind : List Bool → List ℕ → List ℕ
marked_behind marks [] = []
marked_behind marks (b ∷ rest) = codes " " ++ place_text (is_marked marks) b ++ marked_behind (marks_behind marks) rest

-- two digits or the mark of a masked byte for each of these bytes, and a blank between two of them
abbrev pub marked_apart : List Bool → List ℕ → List ℕ
marked_apart marks [] = []
marked_apart marks (b ∷ rest) = place_text (is_marked marks) b ++ marked_behind (marks_behind marks) rest

-- a message with this mask ends with its places, and what follows them is cut off, whether there was something or not
abbrev pub ends_cut : MaskValue × ℕ → List ℕ → Bool
ends_cut found bytes = found.0.cuts && (length bytes - found.1 == length found.0.places)

-- Wherever the last byte of a message is shown of which a mask cuts off what follows, a `*` stands behind it: in digits and
-- as a letter, in a whole text, in a piece, and where the byte stands alone.

-- what stands behind the last byte of a message with this mask
abbrev pub cut_mark : MaskValue × ℕ → List ℕ → List ℕ
cut_mark found bytes = if ends_cut found bytes then codes " *" else []

-- so many bytes from a place on go up to the end of a message with this mask, behind which it is cut off
abbrev pub piece_ends_cut : MaskValue × ℕ → List ℕ → ℕ → ℕ → Bool
piece_ends_cut found bytes place count = ends_cut found bytes && nat_le (length bytes - place) count

-- what stands behind so many bytes from a place on
abbrev pub piece_mark : MaskValue × ℕ → List ℕ → ℕ → ℕ → List ℕ
piece_mark found bytes place count = if piece_ends_cut found bytes place count then codes " *" else []

-- all bytes of a message, which has a mask or has none
abbrev pub all_bytes_by : Option (MaskValue × ℕ) → List ℕ → List ℕ
all_bytes_by None bytes = bytes_apart bytes
all_bytes_by (Some found) bytes = marked_apart (marks_of found) bytes ++ cut_mark found bytes

-- whether the byte at a place of a message is masked, which has a mask or has none
abbrev pub mark_by : Option (MaskValue × ℕ) → ℕ → Bool
mark_by None place = false
mark_by (Some found) place = is_marked (drop place (marks_of found))

-- whether the byte at a place of a message that rules have left is masked
abbrev pub mark_at : List RuleValue → List ℕ → ℕ → Bool
mark_at rules bytes place = mark_by (mask_of rules bytes) place

-- whether the byte at a place of a message is its last one, behind which it is cut off
abbrev pub cut_behind_by : Option (MaskValue × ℕ) → List ℕ → ℕ → Bool
cut_behind_by None bytes place = false
cut_behind_by (Some found) bytes place = piece_ends_cut found bytes place 1

-- whether the byte at a place of a message that rules have left is its last one, behind which it is cut off
abbrev pub cut_behind : List RuleValue → List ℕ → ℕ → Bool
cut_behind rules bytes place = cut_behind_by (mask_of rules bytes) bytes place

-- so many bytes of a message from a place on, which has a mask or has none
abbrev pub piece_by : Option (MaskValue × ℕ) → List ℕ → ℕ → ℕ → List ℕ
piece_by None bytes place count = bytes_apart (take count (drop place bytes))
piece_by (Some found) bytes place count =
    marked_apart (drop place (marks_of found)) (take count (drop place bytes)) ++ piece_mark found bytes place count

-- so many bytes of a message that rules have left, from a place on
abbrev pub piece_text : List RuleValue → List ℕ → ℕ → ℕ → List ℕ
piece_text rules bytes place count = piece_by (mask_of rules bytes) bytes place count

-- How much is shown.

-- all bytes of a message are shown where these are not more
abbrev pub most_shown : ℕ
most_shown = 64

-- the bytes of a message behind the first ones are folded where it has not more than so many, and else not shown
abbrev pub most_folded : ℕ
most_folded = 512

-- so many bytes of a message are its first ones
abbrev pub shown_first : ℕ
shown_first = 32

-- this text of all bytes of a short message, and that of the letters which they may be
abbrev pub short_data : List ℕ → List ℕ → List ℕ
short_data text shown_letters = codes "<code>" ++ text ++ codes "</code>" ++ shown_letters

-- this text of the first bytes of a longer message, and those of so many others, and of the letters which these may be, folded
abbrev pub folded_data : List ℕ → List ℕ → List ℕ → ℕ → List ℕ
folded_data front text shown_letters more =
    codes "<code>" ++ front ++ codes "</code> <details><summary>" ++ decimal more ++ codes " bytes more</summary><code>"
    ++ text ++ codes "</code>" ++ shown_letters ++ codes "</details>"

-- this text of the first bytes of the longest messages, and how many others they have, which the canonical log shows
abbrev pub cut_data : List ℕ → ℕ → List ℕ
cut_data front more = codes "<code>" ++ front ++ codes "</code> <i>" ++ decimal more ++ codes " bytes more, not shown</i>"

-- so many bytes more, in words behind their number
abbrev pub more_words : ℕ → List ℕ
more_words more = if more == 1 then codes " byte more" else codes " bytes more"

-- this text of the first bytes of a message, and how many others it has, for a brief row
abbrev pub brief_cut : List ℕ → ℕ → List ℕ
brief_cut front more = front ++ codes " and " ++ decimal more ++ more_words more

-- the same of a message that may be cut off: then it has at least so many others
abbrev pub brief_least : Bool → List ℕ → ℕ → List ℕ
brief_least is_cut front more = front ++ (if is_cut then codes " and at least " else codes " and ") ++ decimal more ++ more_words more

-- the bytes of a message without a mask, as far as a brief row shows them
abbrev pub plain_brief : List ℕ → List ℕ
plain_brief bytes =
    if nat_le (length bytes) shown_first then bytes_apart bytes
    else brief_cut (bytes_apart (take shown_first bytes)) (length bytes - shown_first)

-- those of a message with this mask
abbrev pub marked_brief : MaskValue × ℕ → List ℕ → List ℕ
marked_brief found bytes =
    if nat_le (length bytes) shown_first then marked_apart (marks_of found) bytes ++ cut_mark found bytes
    else brief_least (ends_cut found bytes) (marked_apart (marks_of found) (take shown_first bytes)) (length bytes - shown_first)

-- the same of a message which has a mask or has none
abbrev pub brief_by : Option (MaskValue × ℕ) → List ℕ → List ℕ
brief_by None bytes = plain_brief bytes
brief_by (Some found) bytes = marked_brief found bytes

-- the bytes of a message that rules have left, as far as a brief row shows them
abbrev pub brief_data : List RuleValue → List ℕ → List ℕ
brief_data rules bytes = brief_by (mask_of rules bytes) bytes

-- the bytes of a message without a mask, as far as its row shows them
abbrev pub plain_data : List ℕ → List ℕ
plain_data bytes =
    if nat_le (length bytes) most_shown then short_data (bytes_apart bytes) (letters_text bytes)
    else if nat_le (length bytes) most_folded
    then folded_data (bytes_apart (take shown_first bytes)) (bytes_apart (drop shown_first bytes)) (letters_text (drop shown_first bytes))
    (length (drop shown_first bytes))
    else cut_data (bytes_apart (take shown_first bytes)) (length bytes - shown_first)

-- those of a message with this mask
abbrev pub marked_data : MaskValue × ℕ → List ℕ → List ℕ
marked_data found bytes =
    if nat_le (length bytes) most_shown
    then short_data (marked_apart (marks_of found) bytes ++ cut_mark found bytes) (last_letters (ends_cut found bytes) bytes)
    else if nat_le (length bytes) most_folded
    then folded_data (marked_apart (marks_of found) (take shown_first bytes))
    (marked_apart (drop shown_first (marks_of found)) (drop shown_first bytes) ++ cut_mark found bytes)
    (last_letters (ends_cut found bytes) (drop shown_first bytes)) (length (drop shown_first bytes))
    else cut_data (marked_apart (marks_of found) (take shown_first bytes)) (length bytes - shown_first)

-- the same of a message which has a mask or has none, and behind the bytes of one that has none the names that the standards
-- have for the first of them, and its trouble codes
abbrev pub data_by : Option (MaskValue × ℕ) → List ℕ → List ℕ
data_by None bytes = plain_data bytes ++ names_text bytes ++ trouble_text bytes
data_by (Some found) bytes = marked_data found bytes

-- the bytes of a message that rules have left, as far as its row shows them
abbrev pub data_text : List RuleValue → List ℕ → List ℕ
data_text rules bytes = data_by (mask_of rules bytes) bytes

-- how many bytes a message has, which has a mask or has none; that is not known where bytes may have been cut off
abbrev pub known_length_by : Option (MaskValue × ℕ) → List ℕ → Option ℕ
known_length_by None bytes = Some (length bytes)
known_length_by (Some found) bytes = if ends_cut found bytes then None else Some (length bytes)

-- how many bytes a message had that rules have left, where that is known
abbrev pub known_length : List RuleValue → List ℕ → Option ℕ
known_length rules bytes = known_length_by (mask_of rules bytes) bytes
