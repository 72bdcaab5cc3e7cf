-- The frame of a short message, picked from its ends.
use mir.Syntax.{w8}
use lib.Lanes.{pick_l, zip2}
use Rattle.std.proofs.Common.{◌≡◌, ℕ, ◌≤◌, List, [], ◌∷◌, ◌++◌, length, get_or, replicate, bit_or, refl, ap, sym, ◌∙◌, arith, rules}
use Rattle.std.specs.List.{range_with_len}
use Rattle.std.proofs.lemmas.Simd.{swz_l, SwzOk}
use Rattle.direction.specs.declared.Dir.{Dir}
use Rattle.isotp_segment.specs.declared.single.TheConstants.{BLANKS, PLACES}
use Rattle.isotp_segment.specs.CanonicalFrames.{padded, single_control, canonical_frames}
use Rattle.isotp_segment.specs.proving.Ends.{ends_of}
use Rattle.isotp_segment.proofs.Frames.{canonical_frames-short}

-- eight lanes, and zeros behind them
abbrev pub widened : List ℕ → List ℕ
widened lanes = pick_l 0 (lanes ++ replicate 8 0) (range_with_len 0 16)

-- the places of the bytes are lanes, or none
pub places_are_lanes : (message : List ℕ) → length message ≤ 7 → SwzOk w8 16 16 0 (widened (get_or PLACES (length message) []))
places_are_lanes [] short = search rules
places_are_lanes (a ∷ []) short = search rules
places_are_lanes (a ∷ b ∷ []) short = search rules
places_are_lanes (a ∷ b ∷ c ∷ []) short = search rules
places_are_lanes (a ∷ b ∷ c ∷ d ∷ []) short = search rules
places_are_lanes (a ∷ b ∷ c ∷ d ∷ e ∷ []) short = search rules
places_are_lanes (a ∷ b ∷ c ∷ d ∷ e ∷ f ∷ []) short = search rules
places_are_lanes (a ∷ b ∷ c ∷ d ∷ e ∷ f ∷ g ∷ []) short = search rules
places_are_lanes (a ∷ b ∷ c ∷ d ∷ e ∷ f ∷ g ∷ h ∷ more) short = absurd (omega arith)

-- the frame: the bytes at their places, over a blank one
abbrev pub picked : List ℕ → List ℕ
picked message =
    let bytes = swz_l w8 16 (widened (ends_of message)) 0 (widened (get_or PLACES (length message) [])) in
    zip2 bit_or (get_or BLANKS (length message) []) (pick_l 0 (bytes ++ bytes) (range_with_len 0 8))

pub picked_is_padded : (message : List ℕ) → 1 ≤ length message → length message ≤ 7
    → picked message ≡ padded (single_control (length message)) message
unfolding padded
picked_is_padded [] some short = absurd (omega arith)
picked_is_padded (a ∷ []) some short = refl
picked_is_padded (a ∷ b ∷ []) some short = refl
picked_is_padded (a ∷ b ∷ c ∷ []) some short = refl
picked_is_padded (a ∷ b ∷ c ∷ d ∷ []) some short = refl
picked_is_padded (a ∷ b ∷ c ∷ d ∷ e ∷ []) some short = refl
picked_is_padded (a ∷ b ∷ c ∷ d ∷ e ∷ f ∷ []) some short = refl
picked_is_padded (a ∷ b ∷ c ∷ d ∷ e ∷ f ∷ g ∷ []) some short = refl
picked_is_padded (a ∷ b ∷ c ∷ d ∷ e ∷ f ∷ g ∷ h ∷ more) some short = absurd (omega arith)

-- it is the only one of its message
pub picked_is_alone : (limit : ℕ) (direction : Dir) (message : List ℕ) → 1 ≤ length message → length message ≤ 7 → length message ≤ limit
    → canonical_frames limit direction message ≡ (direction, picked message) ∷ []
picked_is_alone limit direction message some short fits =
    canonical_frames-short limit direction message some short fits
    ∙ ap (λ (frame : List ℕ). (direction, frame) ∷ []) (sym (picked_is_padded message some short))
