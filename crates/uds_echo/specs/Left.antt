-- What is seen of the bytes of a message that rules have left.
use Rattle.std.specs.Prelude.{ℕ, ◌-◌, ◌%◌, ◌==◌, ◌&&◌, not, Bool, false, List, Option, Some, None, nat_le, slice_get, unwrap_or, option_map, if◌then◌else◌}
use Rattle.uds_rules.specs.Mask.{MaskValue}

-- whether a mask masks the byte at a place behind its prefix
abbrev pub masks_place : MaskValue → ℕ → Bool
masks_place mask place = unwrap_or (slice_get mask.places place) false

-- whether the byte at a place of a message is masked, which has a mask from some place on, or has none
abbrev pub is_masked_at : Option (MaskValue × ℕ) → ℕ → Bool
is_masked_at None place = false
is_masked_at (Some found) place = nat_le found.1 place && masks_place found.0 (place - found.1)

-- the byte at a place of a message that rules have left: none where they mask it, or the message ends before
abbrev pub seen_at : List ℕ → Option (MaskValue × ℕ) → ℕ → Option ℕ
seen_at bytes found place = if is_masked_at found place then None else slice_get bytes place

-- what two bytes are known to be other than each other: none of them is masked, and they are not the same
abbrev pub differ : Option ℕ → Option ℕ → Bool
differ None other = false
differ (Some one) None = false
differ (Some one) (Some other) = not (one == other)

-- of a sub-function its number, the low seven bits: bit 7 suppresses the positive response (ISO 14229-1,
-- suppressPosRspMsgIndicationBit)
abbrev pub number_of : Option ℕ → Option ℕ
number_of seen = option_map (λ byte. byte % 0x80) seen

-- what is compared of the byte at a place of a message: of a sub-function, which stands behind the service identifier, its number
abbrev pub compared_at : Bool → List ℕ → Option (MaskValue × ℕ) → ℕ → Option ℕ
compared_at has_sub bytes found place =
    if place == 1 && has_sub then number_of (seen_at bytes found place) else seen_at bytes found place
