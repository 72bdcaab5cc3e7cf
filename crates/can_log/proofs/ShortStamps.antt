-- The digits of a short stamp, picked from its ends.
use mir.Syntax.{w8}
use lib.Lanes.{pick_l, zip2}
use Rattle.std.proofs.Common.{◌≡◌, ℕ, ◌≤◌, ◌<◌, ◌-◌, List, [], ◌∷◌, ◌++◌, length, get_or, take, drop, bit_or, refl, arith, rules}
use Rattle.std.specs.List.{range_with_len}
use Rattle.std.proofs.lemmas.Simd.{swz_l, SwzOk}
use Rattle.can_log.specs.declared.stamp.TheConstants.{ZEROS, PLACES}
use Rattle.can_log.specs.proving.Plain.{seconds_of, micros_of, padded}

-- the first eight bytes and the last
abbrev pub ends_of : List ℕ → List ℕ
ends_of stamp = pick_l 0 (take 8 stamp ++ take 8 (drop (length stamp - 8) stamp)) (range_with_len 0 16)

-- the places of the digits are lanes, or none
pub places_are_lanes : (stamp : List ℕ) → 8 ≤ length stamp → length stamp < 17 → SwzOk w8 16 16 0 (get_or PLACES (length stamp - 8) [])
places_are_lanes [] enough short = absurd (omega arith)
places_are_lanes (a ∷ []) enough short = absurd (omega arith)
places_are_lanes (a ∷ b ∷ []) enough short = absurd (omega arith)
places_are_lanes (a ∷ b ∷ c ∷ []) enough short = absurd (omega arith)
places_are_lanes (a ∷ b ∷ c ∷ d ∷ []) enough short = absurd (omega arith)
places_are_lanes (a ∷ b ∷ c ∷ d ∷ e ∷ []) enough short = absurd (omega arith)
places_are_lanes (a ∷ b ∷ c ∷ d ∷ e ∷ f ∷ []) enough short = absurd (omega arith)
places_are_lanes (a ∷ b ∷ c ∷ d ∷ e ∷ f ∷ g ∷ []) enough short = absurd (omega arith)
places_are_lanes (a ∷ b ∷ c ∷ d ∷ e ∷ f ∷ g ∷ h ∷ []) enough short = search rules
places_are_lanes (a ∷ b ∷ c ∷ d ∷ e ∷ f ∷ g ∷ h ∷ i ∷ []) enough short = search rules
places_are_lanes (a ∷ b ∷ c ∷ d ∷ e ∷ f ∷ g ∷ h ∷ i ∷ j ∷ []) enough short = search rules
places_are_lanes (a ∷ b ∷ c ∷ d ∷ e ∷ f ∷ g ∷ h ∷ i ∷ j ∷ k ∷ []) enough short = search rules
places_are_lanes (a ∷ b ∷ c ∷ d ∷ e ∷ f ∷ g ∷ h ∷ i ∷ j ∷ k ∷ l ∷ []) enough short = search rules
places_are_lanes (a ∷ b ∷ c ∷ d ∷ e ∷ f ∷ g ∷ h ∷ i ∷ j ∷ k ∷ l ∷ m ∷ []) enough short = search rules
places_are_lanes (a ∷ b ∷ c ∷ d ∷ e ∷ f ∷ g ∷ h ∷ i ∷ j ∷ k ∷ l ∷ m ∷ n ∷ []) enough short = search rules
places_are_lanes (a ∷ b ∷ c ∷ d ∷ e ∷ f ∷ g ∷ h ∷ i ∷ j ∷ k ∷ l ∷ m ∷ n ∷ o ∷ []) enough short = search rules
places_are_lanes (a ∷ b ∷ c ∷ d ∷ e ∷ f ∷ g ∷ h ∷ i ∷ j ∷ k ∷ l ∷ m ∷ n ∷ o ∷ p ∷ []) enough short = search rules
places_are_lanes (a ∷ b ∷ c ∷ d ∷ e ∷ f ∷ g ∷ h ∷ i ∷ j ∷ k ∷ l ∷ m ∷ n ∷ o ∷ p ∷ q ∷ more) enough short = absurd (omega arith)

-- the digits at their places, over zeros
abbrev pub picked : List ℕ → List ℕ
picked stamp = zip2 bit_or (get_or ZEROS (length stamp - 8) []) (swz_l w8 16 (ends_of stamp) 0 (get_or PLACES (length stamp - 8) []))

pub picked_is_padded : (stamp : List ℕ) → 8 ≤ length stamp → length stamp < 17 → picked stamp ≡ seconds_of (padded stamp) ++ micros_of (padded stamp)
picked_is_padded [] enough short = absurd (omega arith)
picked_is_padded (a ∷ []) enough short = absurd (omega arith)
picked_is_padded (a ∷ b ∷ []) enough short = absurd (omega arith)
picked_is_padded (a ∷ b ∷ c ∷ []) enough short = absurd (omega arith)
picked_is_padded (a ∷ b ∷ c ∷ d ∷ []) enough short = absurd (omega arith)
picked_is_padded (a ∷ b ∷ c ∷ d ∷ e ∷ []) enough short = absurd (omega arith)
picked_is_padded (a ∷ b ∷ c ∷ d ∷ e ∷ f ∷ []) enough short = absurd (omega arith)
picked_is_padded (a ∷ b ∷ c ∷ d ∷ e ∷ f ∷ g ∷ []) enough short = absurd (omega arith)
picked_is_padded (a ∷ b ∷ c ∷ d ∷ e ∷ f ∷ g ∷ h ∷ []) enough short = refl
picked_is_padded (a ∷ b ∷ c ∷ d ∷ e ∷ f ∷ g ∷ h ∷ i ∷ []) enough short = refl
picked_is_padded (a ∷ b ∷ c ∷ d ∷ e ∷ f ∷ g ∷ h ∷ i ∷ j ∷ []) enough short = refl
picked_is_padded (a ∷ b ∷ c ∷ d ∷ e ∷ f ∷ g ∷ h ∷ i ∷ j ∷ k ∷ []) enough short = refl
picked_is_padded (a ∷ b ∷ c ∷ d ∷ e ∷ f ∷ g ∷ h ∷ i ∷ j ∷ k ∷ l ∷ []) enough short = refl
picked_is_padded (a ∷ b ∷ c ∷ d ∷ e ∷ f ∷ g ∷ h ∷ i ∷ j ∷ k ∷ l ∷ m ∷ []) enough short = refl
picked_is_padded (a ∷ b ∷ c ∷ d ∷ e ∷ f ∷ g ∷ h ∷ i ∷ j ∷ k ∷ l ∷ m ∷ n ∷ []) enough short = refl
picked_is_padded (a ∷ b ∷ c ∷ d ∷ e ∷ f ∷ g ∷ h ∷ i ∷ j ∷ k ∷ l ∷ m ∷ n ∷ o ∷ []) enough short = refl
picked_is_padded (a ∷ b ∷ c ∷ d ∷ e ∷ f ∷ g ∷ h ∷ i ∷ j ∷ k ∷ l ∷ m ∷ n ∷ o ∷ p ∷ []) enough short = refl
picked_is_padded (a ∷ b ∷ c ∷ d ∷ e ∷ f ∷ g ∷ h ∷ i ∷ j ∷ k ∷ l ∷ m ∷ n ∷ o ∷ p ∷ q ∷ more) enough short = absurd (omega arith)
