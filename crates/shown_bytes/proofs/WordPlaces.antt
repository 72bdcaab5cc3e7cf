-- Four bytes in a row that are shown as letters: none go over a byte that is not.
use Rattle.std.proofs.Common.{◌≡◌, ◌<◌, ◌&&◌, ℕ, Bool, true, false, List, [], ◌∷◌, length, drop, get_or, refl, arith}
use Rattle.shown_bytes.specs.Letters.{begins_with_word, has_word, is_mark}

not_then : (x : Bool) → (x && false) ≡ false
not_then true = refl
not_then false = refl

-- no word begins before such a byte that is among the next four
not_at_first : (bytes : List ℕ) → is_mark (get_or bytes 0 0) ≡ false → begins_with_word bytes ≡ false
not_at_first (a ∷ b ∷ c ∷ d ∷ rest) none = rw none refl
not_at_first (a ∷ b ∷ c ∷ []) none = refl
not_at_first (a ∷ b ∷ []) none = refl
not_at_first (a ∷ []) none = refl
not_at_first [] none = refl

not_over_second : (bytes : List ℕ) → is_mark (get_or bytes 1 0) ≡ false → begins_with_word bytes ≡ false
not_over_second (a ∷ b ∷ c ∷ d ∷ rest) none = rw none (not_then (is_mark a))
not_over_second (a ∷ b ∷ c ∷ []) none = refl
not_over_second (a ∷ b ∷ []) none = refl
not_over_second (a ∷ []) none = refl
not_over_second [] none = refl

not_over_third : (bytes : List ℕ) → is_mark (get_or bytes 2 0) ≡ false → begins_with_word bytes ≡ false
not_over_third (a ∷ b ∷ c ∷ d ∷ rest) none = rw (none, not_then (is_mark b)) (not_then (is_mark a))
not_over_third (a ∷ b ∷ c ∷ []) none = refl
not_over_third (a ∷ b ∷ []) none = refl
not_over_third (a ∷ []) none = refl
not_over_third [] none = refl

not_over_fourth : (bytes : List ℕ) → is_mark (get_or bytes 3 0) ≡ false → begins_with_word bytes ≡ false
not_over_fourth (a ∷ b ∷ c ∷ d ∷ rest) none = rw (none, not_then (is_mark c), not_then (is_mark b)) (not_then (is_mark a))
not_over_fourth (a ∷ b ∷ c ∷ []) none = refl
not_over_fourth (a ∷ b ∷ []) none = refl
not_over_fourth (a ∷ []) none = refl
not_over_fourth [] none = refl

-- so the next one stands behind it
pub behind_first : (bytes : List ℕ) → is_mark (get_or bytes 0 0) ≡ false → has_word bytes ≡ has_word (drop 1 bytes)
behind_first [] none = refl
behind_first (a ∷ rest) none = rw (not_at_first (a ∷ rest) none) refl

pub behind_second : (bytes : List ℕ) → is_mark (get_or bytes 1 0) ≡ false → has_word bytes ≡ has_word (drop 2 bytes)
behind_second [] none = refl
behind_second (a ∷ rest) none = rw (not_over_second (a ∷ rest) none) (behind_first rest none)

pub behind_third : (bytes : List ℕ) → is_mark (get_or bytes 2 0) ≡ false → has_word bytes ≡ has_word (drop 3 bytes)
behind_third [] none = refl
behind_third (a ∷ rest) none = rw (not_over_third (a ∷ rest) none) (behind_second rest none)

pub behind_fourth : (bytes : List ℕ) → is_mark (get_or bytes 3 0) ≡ false → has_word bytes ≡ has_word (drop 4 bytes)
behind_fourth [] none = refl
behind_fourth (a ∷ rest) none = rw (not_over_fourth (a ∷ rest) none) (behind_third rest none)

-- fewer than four bytes have none
pub none_of_few : (bytes : List ℕ) → length bytes < 4 → has_word bytes ≡ false
none_of_few [] few = refl
none_of_few (a ∷ []) few = refl
none_of_few (a ∷ b ∷ []) few = refl
none_of_few (a ∷ b ∷ c ∷ []) few = refl
none_of_few (a ∷ b ∷ c ∷ d ∷ rest) few = absurd (omega (arith, few))
