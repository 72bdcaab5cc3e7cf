-- Bytes said by eights: a blank and two digits for each.
use Rattle.std.proofs.Common.{◌≡◌, ◌*◌, ℕ, List, [], ◌∷◌, ◌++◌, length, take, drop, get_or, map, refl, ap, sym, ◌∙◌, arith}
use Rattle.std.specs.Prelude.{replicate}
use Rattle.std.specs.List.{flat_map}
use Rattle.std.proofs.Math.Seq.{take-append_seam}
use Rattle.std.proofs.lemmas.Grind.{flat_map-append}
use Rattle.std.proofs.lemmas.List.{take-append-drop}
use Rattle.can_log.specs.Digits.{digits, hexadecimal}
use Rattle.shown_bytes.specs.Data.{byte_behind, bytes_behind}
use Rattle.shown_bytes.specs.Letters.{letter_text, letters}

-- the digits of eight bytes with blanks between, taken from among them and sixteen blanks behind them
pub spaced_digits : (a b c d e f g h : ℕ) (written : List ℕ) → written ≡ flat_map (hexadecimal 2) (a ∷ b ∷ c ∷ d ∷ e ∷ f ∷ g ∷ h ∷ [])
    → map (λ k. get_or (written ++ replicate 16 32) k 0)
    (16 ∷ 0 ∷ 1 ∷ 16 ∷ 2 ∷ 3 ∷ 16 ∷ 4 ∷ 5 ∷ 16 ∷ 6 ∷ 7 ∷ 16 ∷ 8 ∷ 9 ∷ 16 ∷ 10 ∷ 11 ∷ 16 ∷ 12 ∷ 13 ∷ 16 ∷ 14 ∷ 15 ∷ [])
    ≡ bytes_behind (a ∷ b ∷ c ∷ d ∷ e ∷ f ∷ g ∷ h ∷ [])
unfolding digits
spaced_digits a b c d e f g h written is = rw is refl

-- each byte takes three bytes of text
pub long_behind : (bytes : List ℕ) → length (bytes_behind bytes) ≡ 3 * length bytes
unfolding digits
long_behind [] = refl
long_behind (b ∷ rest) = omega (arith, long_behind rest)

-- the text of the first bytes is the first of the text
pub front_behind : (bytes all : List ℕ) (n : ℕ) → take n all ≡ bytes → n ≡ length bytes → take (3 * n) (bytes_behind all) ≡ bytes_behind bytes
front_behind bytes all n front long =
    let parts : all ≡ bytes ++ drop n all = sym (take-append-drop n all) ∙ ap (λ (l : List ℕ). l ++ drop n all) front in
    let text : bytes_behind all ≡ bytes_behind bytes ++ bytes_behind (drop n all) = ap bytes_behind parts ∙ flat_map-append byte_behind bytes (drop n all) in
    let all_of : 3 * n ≡ length (bytes_behind bytes) = omega (arith, long, long_behind bytes) in
    rw (all_of, text) (take-append_seam (bytes_behind bytes) (bytes_behind (drop n all)))

-- the text of what is left begins with that of its first eight bytes
pub eight_more : (rest eight behind text : List ℕ) → eight ≡ take 8 rest → behind ≡ drop 8 rest → text ≡ bytes_behind eight
    → bytes_behind rest ≡ text ++ bytes_behind behind
eight_more rest eight behind text one two is =
    rw (is, one, two) (ap bytes_behind (sym (take-append-drop 8 rest)) ∙ flat_map-append byte_behind (take 8 rest) (drop 8 rest))

-- the letters of what is left begin with those of its first eight bytes
pub eight_letters_more : (rest eight behind text : List ℕ) → eight ≡ take 8 rest → behind ≡ drop 8 rest → text ≡ letters eight
    → letters rest ≡ text ++ letters behind
eight_letters_more rest eight behind text one two is =
    rw (is, one, two) (ap letters (sym (take-append-drop 8 rest)) ∙ flat_map-append letter_text (take 8 rest) (drop 8 rest))
