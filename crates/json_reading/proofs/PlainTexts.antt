-- Texts that stand in a string of JSON as they are.
use Rattle.std.proofs.Common.{◌≡◌, ℕ, zero, suc, ◌/◌, ◌%◌, ◌<◌, List, [], ◌∷◌, ◌++◌, Bool, true, false, cond, refl, ap, ap₂, arith, codes, decimal}
use Rattle.std.specs.Fmt.{digits, digits_onto, digit_glyph}
use Rattle.std.specs.Prelude.{◌&&◌, ◌==◌, not, nat_le}
use Rattle.std.specs.List.{AllByRecursion, list_all}
use Rattle.std.proofs.lemmas.Bool.Decides.{nat_tests}
use Rattle.can_log.specs.Canonical.{identifier_text}
use Rattle.can_log.specs.declared.frame.Id.{Id}
use Rattle.can_log.specs.declared.frame.Id.TheVariants as id
use Rattle.can_log.specs.Digits.{digit, hexadecimal}
use Rattle.can_log.specs.Digits as fixed
use Rattle.can_log.proofs.Promises.{AllByRecursion-append, AllByRecursion-tested, AllByRecursion-weaker}
use Rattle.json.specs.Print.{escape, escape_byte, quoted}
use Rattle.json.proofs.Printed.Strings.{escape_byte_plain}
use Rattle.trace_text.specs.Json.{in_quotes}
use Rattle.trace_text.specs.Words.{stamp_text}
use Rattle.trace_text.proofs.Promises.{is_in_word, IsWord}

-- neither a quote, nor a backslash, nor a control character
abbrev pub is_plain : ℕ → Bool
is_plain b = nat_le 32 b && not (b == 34) && not (b == 92)

abbrev pub IsPlain : List ℕ → Type 0
IsPlain text = AllByRecursion (λ b. is_plain b ≡ true) text

-- a text that is tested
pub plain : (text : List ℕ) → list_all is_plain text ≡ true → IsPlain text
plain text tested = AllByRecursion-tested is_plain text tested

byte_plain : (b : ℕ) → is_plain b ≡ true → escape_byte b ≡ b ∷ []
byte_plain b is = escape_byte_plain b (λ e. grind (arith, nat_tests)) (λ e. grind (arith, nat_tests)) (grind (arith, nat_tests))

escape_plain : (text : List ℕ) → IsPlain text → escape text ≡ text
escape_plain [] is = refl
escape_plain (b ∷ text) is = ap₂ (λ one rest. one ++ rest) (byte_plain b is.0) (escape_plain text is.1)

-- such a text between quotes is what a writer of JSON gives
pub quoted_plain : (text : List ℕ) → IsPlain text → quoted text ≡ in_quotes text
quoted_plain text is = ap (λ t. 34 ∷ (t ++ 34 ∷ [])) (escape_plain text is)

-- ---- what is told between quotes

plain_append : (a b : List ℕ) → IsPlain a → IsPlain b → IsPlain (a ++ b)
plain_append a b one other = AllByRecursion-append (λ d. is_plain d ≡ true) a b one other

-- a word is plain
pub word_plain : (text : List ℕ) → IsWord text → IsPlain text
word_plain text is = AllByRecursion-weaker (λ b. is_in_word b ≡ true) (λ b. is_plain b ≡ true) (λ b high. grind (arith, nat_tests)) text is

digit_plain : (d : ℕ) → d < 16 → is_plain (digit d) ≡ true
digit_plain d small = grind (arith, nat_tests)

digits_plain : (width n : ℕ) → IsPlain (fixed.decimal width n)
unfolding fixed.digits
digits_plain zero n = tt
digits_plain (suc width) n =
    plain_append (fixed.decimal width (n / 10)) (digit (n % 10) ∷ []) (digits_plain width (n / 10)) (digit_plain (n % 10) (omega arith), tt)

-- an identifier's digits are plain
hexadecimal_plain : (width n : ℕ) → IsPlain (hexadecimal width n)
unfolding fixed.digits
hexadecimal_plain zero n = tt
hexadecimal_plain (suc width) n =
    plain_append (hexadecimal width (n / 16)) (digit (n % 16) ∷ []) (hexadecimal_plain width (n / 16)) (digit_plain (n % 16) (omega arith), tt)

pub identifier_plain : (identifier : Id) → IsPlain (identifier_text identifier)
identifier_plain (id.Std number) = hexadecimal_plain 3 number
identifier_plain (id.Ext number) = hexadecimal_plain 8 number

glyph_plain : (d : ℕ) → d < 10 → is_plain (digit_glyph false d) ≡ true
glyph_plain d small = grind (arith, nat_tests)

either_plain : (b : Bool) (a c : List ℕ) → IsPlain a → IsPlain c → IsPlain (cond b a c)
either_plain true a c one other = one
either_plain false a c one other = other

digits_onto_plain : (k n : ℕ) (behind : List ℕ) → IsPlain behind → IsPlain (digits_onto k 10 false n behind)
digits_onto_plain zero n behind is = is
digits_onto_plain (suc k) n behind is =
    let more : IsPlain (digit_glyph false (n % 10) ∷ behind) = (glyph_plain (n % 10) (omega arith), is) in
    either_plain (n / 10 == 0) _ _ more (digits_onto_plain k (n / 10) (digit_glyph false (n % 10) ∷ behind) more)

decimal_plain : (n : ℕ) → IsPlain (decimal n)
unfolding digits
decimal_plain n = digits_onto_plain 64 n [] tt

-- and so is a stamp
pub stamp_plain : (micros : ℕ) → IsPlain (stamp_text micros)
stamp_plain micros =
    let seconds = plain_append (decimal (micros / 1000000)) (codes ".") (decimal_plain (micros / 1000000)) (plain (codes ".") refl) in
    plain_append (decimal (micros / 1000000) ++ codes ".") (fixed.decimal 6 micros) seconds (digits_plain 6 micros)
