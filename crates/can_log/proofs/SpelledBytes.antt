-- The bytes that pairs of digits spell.
use Rattle.std.proofs.Common.{◌≡◌, ℕ, ◌+◌, ◌-◌, ◌*◌, ◌/◌, ◌%◌, ◌<◌, ◌≤◌, true, false, refl, sym, subst, ap, ◌∙◌, arith}
use Rattle.std.proofs.Common.{List, [], ◌∷◌, ◌++◌, length, length-take-le, length-drop, take, drop, Some, Ok}
use Rattle.std.specs.Prelude.{◌==◌}
use Rattle.std.specs.List.{AllByRecursion}
use Rattle.std.specs.Char.{is_ascii_hexdigit, digit_value}
use Rattle.std.proofs.lemmas.Bool.Decides.{nat_tests}
use Rattle.hex.specs.Hex.{hex_digit_value, pair_value, decode_pairs}
use Rattle.std.proofs.lemmas.List.{take-append-drop, take-take}
use Rattle.std.proofs.Math.Seq.{take-add, take-length}
use Rattle.can_log.specs.Line.{bytes_spelled, IsDataText}
use Rattle.can_log.specs.Laws.{DataIsWhatHexDecodes}
use Rattle.can_log.proofs.DigitValues.{AreHex, hex_value}
use Rattle.can_log.proofs.EachElement.{AllByRecursion-take, AllByRecursion-back}

-- the byte of a pair
abbrev pub pair : ℕ → ℕ → ℕ
pair high low = 16 * digit_value high + digit_value low

-- digits spell bytes
pub spelled_are_bytes : (digits : List ℕ) → AreHex digits → AllByRecursion (λ b. b < 256) (bytes_spelled digits)
spelled_are_bytes [] each = tt
spelled_are_bytes (high ∷ []) each = tt
spelled_are_bytes (high ∷ low ∷ digits) each =
    let first = (hex_value high each.0).0 in
    let second = (hex_value low each.1.0).0 in
    (omega arith, spelled_are_bytes digits each.1.1)

-- ---- in parts

pub bytes_len : (digits : List ℕ) → length digits % 2 ≡ 0 → 2 * length (bytes_spelled digits) ≡ length digits
bytes_len [] even = refl
bytes_len (high ∷ []) even = absurd (omega arith)
bytes_len (high ∷ low ∷ digits) even = omega (arith, bytes_len digits (omega arith))

spelled_append : (digits more : List ℕ) → length digits % 2 ≡ 0 → bytes_spelled (digits ++ more) ≡ bytes_spelled digits ++ bytes_spelled more
spelled_append [] more even = refl
spelled_append (high ∷ []) more even = absurd (omega arith)
spelled_append (high ∷ low ∷ digits) more even = ap (λ (bytes : List ℕ). pair high low ∷ bytes) (spelled_append digits more (omega arith))

-- as many bytes as there are pairs in front
pub spelled_so_far : (n : ℕ) (digits : List ℕ) → n ≤ length digits → n % 2 ≡ 0 → 2 * length (bytes_spelled (take n digits)) ≡ n
spelled_so_far n digits le even =
    let all : length (take n digits) ≡ n = length-take-le n digits le in
    omega (arith, all, bytes_len (take n digits) (omega (arith, all)))

pub sixteen_more : (i : ℕ) (digits : List ℕ) → 16 * i ≤ length digits
    → bytes_spelled (take (16 * (i + 1)) digits) ≡ bytes_spelled (take (16 * i) digits) ++ bytes_spelled (take 16 (drop (16 * i) digits))
sixteen_more i digits le =
    let next : 16 * (i + 1) ≡ 16 * i + 16 = omega arith in
    let all : length (take (16 * i) digits) ≡ 16 * i = length-take-le (16 * i) digits le in
    let two : take (16 * i + 16) digits ≡ take (16 * i) digits ++ take 16 (drop (16 * i) digits) = take-add (16 * i) 16 digits in
    rw (next, two) (spelled_append (take (16 * i) digits) (take 16 (drop (16 * i) digits)) (omega (arith, all)))

-- what a slice from a place on holds
pub rest_of : (n : ℕ) (digits : List ℕ) → take (length digits - n) (drop n digits) ≡ drop n digits
rest_of n digits = rw (← length-drop n digits) (take-length (drop n digits))

-- what follows the front of a slice is the slice's rest
pub the_rest : (i : ℕ) (digits : List ℕ) → 16 * i ≤ length digits
    → bytes_spelled (take (16 * i) digits) ++ bytes_spelled (take (length digits - 16 * i) (drop (16 * i) digits)) ≡ bytes_spelled digits
the_rest i digits le =
    let front : length (take (16 * i) digits) ≡ 16 * i = length-take-le (16 * i) digits le in
    let back = rest_of (16 * i) digits in
    rw back (sym (spelled_append (take (16 * i) digits) (drop (16 * i) digits) (omega (arith, front))))
    ∙ ap (λ (whole : List ℕ). bytes_spelled whole) (take-append-drop (16 * i) digits)

-- a part of a front that is data
pub part_of_front : (i sixteens : ℕ) (digits : List ℕ) → IsDataText 128 (take (16 * sixteens) digits) → 16 * sixteens ≤ length digits → i < sixteens
    → IsDataText 128 (take (16 * i + 16 - 16 * i) (drop (16 * i) digits))
part_of_front i sixteens digits text room lt =
    let is_hex = λ (b : ℕ). is_ascii_hexdigit b ≡ true in
    let width : 16 * i + 16 - 16 * i ≡ 16 = omega arith in
    let so_far : take (16 * i + 16) digits ≡ take (16 * i) digits ++ take 16 (drop (16 * i) digits) = take-add (16 * i) 16 digits in
    let front : AllByRecursion is_hex (take (16 * i + 16) digits) =
    subst (AllByRecursion is_hex) (take-take (16 * i + 16) (16 * sixteens) digits (omega arith)) (AllByRecursion-take is_hex (16 * i + 16) (take (16 * sixteens) digits) text.0.each)
    in
    let long : length (take 16 (drop (16 * i) digits)) ≡ 16 = length-take-le 16 (drop (16 * i) digits) (omega (arith, length-drop (16 * i) digits)) in
    subst (λ (n : ℕ). IsDataText 128 (take n (drop (16 * i) digits))) (sym width) (
      record {
        each = AllByRecursion-back is_hex (take (16 * i) digits) (take 16 (drop (16 * i) digits)) (subst (AllByRecursion is_hex) so_far front);
        enough = omega arith;
        few = omega (arith, long);
      },
      omega (arith, long),
    )

-- ---- by lanes

-- what the digits in the first of sixteen lanes spell, of the bytes of all lanes
abbrev pub AreSpelledInFront : List ℕ → List ℕ → Type 0
AreSpelledInFront lanes spelled =
    (n : ℕ) → n ≤ 8 → AllByRecursion (λ b. is_ascii_hexdigit b ≡ true) (take (2 * n) lanes) → take n spelled ≡ bytes_spelled (take (2 * n) lanes)

-- all lanes hold digits
pub all_bytes : (digits spelled : List ℕ) → length digits ≡ 16 → length spelled ≡ 8 → AreHex digits → AreSpelledInFront (take 16 digits) spelled
    → spelled ≡ bytes_spelled digits
all_bytes digits spelled long eight each are =
    let whole : take 16 digits ≡ digits = ap (λ (k : ℕ). take k digits) (sym long) ∙ take-length digits in
    let same : take 8 spelled ≡ spelled = ap (λ (k : ℕ). take k spelled) (sym eight) ∙ take-length spelled in
    let all : take 16 (take 16 digits) ≡ digits = take-take 16 16 digits (omega arith) ∙ whole in
    sym same ∙ are 8 (omega arith) (subst AreHex (sym all) each) ∙ ap (λ (z : List ℕ). bytes_spelled z) all

-- how many of the digits stand in whole sixteens
abbrev in_sixteens : ℕ → ℕ
in_sixteens digits = 16 * (digits / 16)

-- all digits stand in whole sixteens
pub whole_sixteens : (digits : List ℕ) → length digits % 16 ≡ 0 → bytes_spelled (take (in_sixteens (length digits)) digits) ≡ bytes_spelled digits
whole_sixteens digits none =
    let all : in_sixteens (length digits) ≡ length digits = omega arith in
    ap (λ (n : ℕ). bytes_spelled (take n digits)) all ∙ ap (λ (z : List ℕ). bytes_spelled z) (take-length digits)

-- ---- what `hex` decodes

hex_is : (b : ℕ) → is_ascii_hexdigit b ≡ true → hex_digit_value b ≡ Some (digit_value b)
hex_is b h = grind (arith, nat_tests)

pair_is : (high low i : ℕ) → is_ascii_hexdigit high ≡ true → is_ascii_hexdigit low ≡ true → pair_value high low i ≡ Ok (pair high low)
pair_is high low i h l =
    let swap : digit_value high * 16 + digit_value low ≡ pair high low = omega arith in
    rw (hex_is high h, hex_is low l) (ap (λ (z : ℕ). Ok z) swap)

decode_all : (i : ℕ) (digits : List ℕ) → AreHex digits → length digits % 2 ≡ 0 → decode_pairs i digits ≡ Ok (bytes_spelled digits)
unfolding decode_pairs
decode_all i [] each even = refl
decode_all i (high ∷ []) each even = absurd (omega arith)
decode_all i (high ∷ low ∷ digits) each even = rw (pair_is high low i each.0 each.1.0, decode_all (i + 2) digits each.1.1 (omega arith)) refl

pub data_is_what_hex_decodes : DataIsWhatHexDecodes
data_is_what_hex_decodes digits is =
    let odd : (length digits % 2 == 1) ≡ false = ap (λ (z : ℕ). z == 1) is.1 in
    rw odd (decode_all 0 digits is.0.each is.1)
