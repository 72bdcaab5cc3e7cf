-- The bytes of a message that rules have left, in digits: a byte that they mask, and what they cut off, are told by
-- marks.
use Rattle.std.specs.Prelude.{ℕ, ◌==◌, ◌&&◌, Bool, List, [], ◌∷◌, ◌++◌, length, take, drop, codes, Option, Some, None, if◌then◌else◌}
use Rattle.can_log.specs.Digits.{hexadecimal}
use Rattle.uds_rules.specs.Mask.{MaskValue}
use Rattle.uds_rules.specs.Rule.{RuleValue, mask_of}
use Rattle.trace_text.specs.Words.{bytes_text}

-- the byte at a place: `..` where it is masked, whatever stood there, and else its digits
abbrev pub place_text : Bool → ℕ → List ℕ
place_text is_masked byte = if is_masked then codes ".." else hexadecimal 2 byte

-- What stands behind the places: bytes that are left; or `*` where none is and what follows is cut off, whether there
-- was something to cut off or not.
abbrev pub text_behind : Bool → List ℕ → List ℕ
text_behind cuts bytes = bytes_text bytes ++ (if cuts && (length bytes == 0) then codes "*" else [])

-- the bytes behind a prefix, by their places; a message that ends before the places do has no mark behind it
abbrev pub places_text : List Bool → Bool → List ℕ → List ℕ
places_text [] cuts bytes = text_behind cuts bytes
places_text (is_masked ∷ places) cuts [] = []
places_text (is_masked ∷ places) cuts (byte ∷ bytes) = place_text is_masked byte ++ places_text places cuts bytes

-- the bytes behind a prefix under a mask
abbrev pub masked_text : MaskValue → List ℕ → List ℕ
masked_text mask bytes = places_text mask.places mask.cuts bytes

-- a message with this mask from this place on
abbrev pub text_by : Option (MaskValue × ℕ) → List ℕ → List ℕ
text_by None message = bytes_text message
text_by (Some found) message = bytes_text (take found.1 message) ++ masked_text found.0 (drop found.1 message)

-- the text of a message that rules have left
abbrev pub ruled_text : List RuleValue → List ℕ → List ℕ
ruled_text rules message = text_by (mask_of rules message) message
