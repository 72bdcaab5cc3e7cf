-- The bytes of a message with blanks between, without these.
use Prim.Native.Char.{code}
use Prim.Native.Nat.{zero, suc}
use Rattle.std.proofs.Common.{◌≡◌, ℕ, ◌+◌, ◌-◌, ◌/◌, ◌%◌, ◌<◌, Bool, true, false, List, [], ◌∷◌, ◌++◌, length, take, drop, replicate, Option, Some, None, arith, refl, ap, ap₂, sym, ◌∙◌, append-nil, append_assoc}
use Rattle.std.specs.Prelude.{codes, ◌==◌, ◌&&◌, if◌then◌else◌}
use Rattle.std.proofs.lemmas.Bool.Decides.{nat_tests}
use Rattle.std.proofs.lemmas.List.{length-drop}
use Rattle.std.proofs.Math.Dec.{eqb-suc-suc, eqb-zero-suc}
use Rattle.can_log.specs.Digits.{digit, digits, hexadecimal}
use Rattle.uds_rules.specs.Mask.{MaskValue}
use Rattle.uds_rules.specs.Rule.{RuleValue, mask_of}
use Rattle.trace_text.specs.RuledText.{place_text, places_text, ruled_text, text_by}
use Rattle.trace_text.specs.Words.{bytes_text}
use Rattle.shown_bytes.specs.Data.{all_bytes_by, bytes_apart, bytes_behind, cut_mark, ends_cut, is_marked, marked_apart, marked_behind, marks_behind, marks_of}
use Rattle.shown_bytes.specs.Laws.{BytesAreAsListed, without_blanks}

no_blank : (d : ℕ) → d < 16 → (digit d == code " ") ≡ false
no_blank d small = grind (arith, nat_tests)

kept : (c : ℕ) (rest : List ℕ) → (c == code " ") ≡ false → without_blanks (c ∷ rest) ≡ c ∷ without_blanks rest
kept c rest none = rw none refl

byte-kept : (b : ℕ) (rest : List ℕ) → without_blanks (hexadecimal 2 b ++ rest) ≡ hexadecimal 2 b ++ without_blanks rest
unfolding digits
byte-kept b rest =
    kept (digit (b / 16 % 16)) (digit (b % 16) ∷ rest) (no_blank (b / 16 % 16) (omega arith))
    ∙ ap (λ l. digit (b / 16 % 16) ∷ l) (kept (digit (b % 16)) rest (no_blank (b % 16) (omega arith)))

place-kept : (is_masked : Bool) (b : ℕ) (rest : List ℕ) → without_blanks (place_text is_masked b ++ rest) ≡ place_text is_masked b ++ without_blanks rest
place-kept true b rest = refl
place-kept false b rest = byte-kept b rest

-- ---- without a mask

behind-kept : (bytes rest : List ℕ) → without_blanks (bytes_behind bytes ++ rest) ≡ bytes_text bytes ++ without_blanks rest
behind-kept [] rest = refl
behind-kept (b ∷ bytes) rest =
    ap without_blanks (append_assoc (codes " " ++ hexadecimal 2 b) (bytes_behind bytes) rest)
    ∙ byte-kept b (bytes_behind bytes ++ rest)
    ∙ ap (λ l. hexadecimal 2 b ++ l) (behind-kept bytes rest)
    ∙ sym (append_assoc (hexadecimal 2 b) (bytes_text bytes) (without_blanks rest))

plain : (bytes : List ℕ) → without_blanks (bytes_apart bytes) ≡ bytes_text bytes
plain [] = refl
plain (b ∷ bytes) =
    ap (λ l. without_blanks (hexadecimal 2 b ++ l)) (sym (append-nil (bytes_behind bytes)))
    ∙ byte-kept b (bytes_behind bytes ++ [])
    ∙ ap (λ l. hexadecimal 2 b ++ l) (behind-kept bytes [] ∙ append-nil (bytes_text bytes))

-- ---- with one

-- the star behind these bytes, where they begin with the mask
abbrev star : Bool → List Bool → List ℕ → List ℕ
star cuts places bytes = if cuts && (length bytes == length places) then codes " *" else []

star-kept : (ends : Bool) → without_blanks (if ends then codes " *" else []) ≡ (if ends then codes "*" else [])
star-kept true = refl
star-kept false = refl

abbrev listed : Bool → ℕ → List Bool → List ℕ → List ℕ
listed cuts before places bytes = bytes_text (take before bytes) ++ places_text places cuts (drop before bytes)

one-step : (is_masked : Bool) (b : ℕ) (marks : List Bool) (bytes rest text : List ℕ) → without_blanks (marked_behind marks bytes ++ rest) ≡ text
    → without_blanks ((codes " " ++ place_text is_masked b ++ marked_behind marks bytes) ++ rest) ≡ place_text is_masked b ++ text
one-step is_masked b marks bytes rest text is =
    ap without_blanks (append_assoc (codes " " ++ place_text is_masked b) (marked_behind marks bytes) rest)
    ∙ place-kept is_masked b (marked_behind marks bytes ++ rest)
    ∙ ap (λ l. place_text is_masked b ++ l) is

no-marks : (bytes rest : List ℕ) → without_blanks (marked_behind [] bytes ++ rest) ≡ bytes_text bytes ++ without_blanks rest
no-marks [] rest = refl
no-marks (b ∷ bytes) rest =
    one-step false b [] bytes rest (bytes_text bytes ++ without_blanks rest) (no-marks bytes rest)
    ∙ sym (append_assoc (hexadecimal 2 b) (bytes_text bytes) (without_blanks rest))

-- the bytes from the mask on
from-mask : (cuts : Bool) (places : List Bool) (bytes : List ℕ)
    → without_blanks (marked_behind places bytes ++ star cuts places bytes) ≡ places_text places cuts bytes
from-mask cuts [] bytes = no-marks bytes (star cuts [] bytes) ∙ ap (λ l. bytes_text bytes ++ l) (star-kept (cuts && (length bytes == 0)))
from-mask true (m ∷ places) [] = ap (λ (is : Bool). without_blanks (if is then codes " *" else [])) (eqb-zero-suc (length places))
from-mask false (m ∷ places) [] = refl
from-mask cuts (m ∷ places) (b ∷ bytes) =
    let same : (suc (length bytes) == suc (length places)) ≡ (length bytes == length places) = eqb-suc-suc (length bytes) (length places) in
    ap (λ (is : Bool). without_blanks (marked_behind (m ∷ places) (b ∷ bytes) ++ (if cuts && is then codes " *" else []))) same
    ∙ one-step m b places bytes (star cuts places bytes) (places_text places cuts bytes) (from-mask cuts places bytes)

-- all bytes behind a blank
all-behind : (cuts : Bool) (before : ℕ) (places : List Bool) (bytes : List ℕ)
    → without_blanks (marked_behind (replicate before false ++ places) bytes ++ star cuts places (drop before bytes)) ≡ listed cuts before places bytes
all-behind cuts zero places bytes = from-mask cuts places bytes
all-behind true (suc before) [] [] = refl
all-behind true (suc before) (m ∷ places) [] = ap (λ (is : Bool). without_blanks (if is then codes " *" else [])) (eqb-zero-suc (length places))
all-behind false (suc before) [] [] = refl
all-behind false (suc before) (m ∷ places) [] = refl
all-behind cuts (suc before) places (b ∷ bytes) =
    one-step false b (replicate before false ++ places) bytes (star cuts places (drop before bytes)) (listed cuts before places bytes)
    (all-behind cuts before places bytes)
    ∙ sym (append_assoc (hexadecimal 2 b) (bytes_text (take before bytes)) (places_text places cuts (drop before bytes)))

-- and with none before the first one
unblanked : (marks : List Bool) (bytes rest : List ℕ) → without_blanks (marked_apart marks bytes ++ rest) ≡ without_blanks (marked_behind marks bytes ++ rest)
unblanked marks [] rest = refl
unblanked marks (b ∷ bytes) rest = refl

by-mask : (found : Option (MaskValue × ℕ)) (bytes : List ℕ) → without_blanks (all_bytes_by found bytes) ≡ text_by found bytes
by-mask None bytes = plain bytes
by-mask (Some found) bytes =
    unblanked (marks_of found) bytes (cut_mark found bytes)
    ∙ ap (λ (n : ℕ). without_blanks (marked_behind (marks_of found) bytes ++ (if found.0.cuts && (n == length found.0.places) then codes " *" else [])))
    (sym (length-drop found.1 bytes))
    ∙ all-behind found.0.cuts found.1 found.0.places bytes

pub bytes_are_as_listed : BytesAreAsListed
bytes_are_as_listed rules bytes = by-mask (mask_of rules bytes) bytes
